-- A go, part by part.
use Rattle.std.proofs.Common.{refl, ◌≡◌, ℕ, Bool, List, codes, ap, ◌∙◌}
use Rattle.std.specs.Str.{chars}
use Rattle.wap_base.proofs.Plain.{chars-plain}
use Rattle.wap_base.specs.Texts.{is_same_text}
use Rattle.wap_tokens.specs.declared.markup.deck.Node.{Node}
use Rattle.wap_tokens.specs.declared.markup.name.AttrName.TheVariants as attrs
use Rattle.wap_tokens.specs.markup.Trees.{value_of, plain_value, is_text}
use Rattle.wap_vars.specs.Variables.{Variables}
use Rattle.wap_vars.specs.Filling.{value_text}
use Rattle.wap_cardrules.specs.declared.task.Go.{Go}
use Rattle.wap_cardrules.specs.Values.{is_true}
use Rattle.wap_cardrules.specs.Tasks.{go_in, posts_in, sets_in}

abbrev go : List ℕ → Bool → Bool → Bool → List (List ℕ × List ℕ) → List (List ℕ × List ℕ) → Go
go href post referer fresh posts sets = record {
  href = href;
  post = post;
  referer = referer;
  fresh = fresh;
  posts = posts;
  sets = sets;
}

module _ (vars : Variables) (node : Node) (href : List ℕ) (post referer fresh : Bool)
    (posts sets : List (List ℕ × List ℕ)) where
  pub go_parts : href ≡ value_text vars (value_of attrs.Href node)
      → post ≡ is_text (chars (codes "post")) (plain_value attrs.Method node)
      → referer ≡ is_true attrs.Sendreferer node
      → fresh
      ≡ is_same_text (chars (codes "no-cache")) (value_text vars (value_of attrs.CacheControl node))
      → posts ≡ posts_in vars node → sets ≡ sets_in vars node
      → go href post referer fresh posts sets ≡ go_in vars node
  go_parts hrefs posted referers freshly all_posts all_sets =
      let own : Go = go_in vars node in
      let post_is : post ≡ own.post =
      posted ∙ ap (λ (word : List ℕ). is_text word (plain_value attrs.Method node))
      (chars-plain (codes "post") refl) in
      let fresh_is : fresh ≡ own.fresh =
      freshly ∙ ap (λ (word : List ℕ).
      is_same_text word (value_text vars (value_of attrs.CacheControl node)))
      (chars-plain (codes "no-cache") refl) in
      ap (λ (x : List ℕ). go x post referer fresh posts sets) hrefs
      ∙ ap (λ (x : Bool). go own.href x referer fresh posts sets) post_is
      ∙ ap (λ (x : Bool). go own.href own.post x fresh posts sets) referers
      ∙ ap (λ (x : Bool). go own.href own.post own.referer x posts sets) fresh_is
      ∙ ap
      (λ (x : List (List ℕ × List ℕ)). go own.href own.post own.referer own.fresh x sets) all_posts
      ∙ ap (λ (x : List (List ℕ × List ℕ)).
      go own.href own.post own.referer own.fresh own.posts x) all_sets
