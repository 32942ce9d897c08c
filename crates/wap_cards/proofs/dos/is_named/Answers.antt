use Rattle.std.proofs.Common.{◌≡◌, ℕ, Bool, false, List, [], ◌∷◌, Option, Some, None}
use Rattle.std.proofs.Common.{refl, sym, ap, ◌∙◌}
use Rattle.std.specs.Prelude.{IsTrue, ◌↔◌, unwrap_or}
use Rattle.std.specs.Option.{option_and_then}
use Rattle.std.specs.Cmp.Lexicographic.{nat_list_eq_equiv}
use Rattle.wap_base.specs.Texts.{is_same_text}
use Rattle.wap_base.specs.declared.name.Part.{Part}
use Rattle.wap_tokens.specs.markup.Trees.{plain_text, is_text}
use Rattle.wap_cards.proofs.dos.is_named.Goals as goal

-- a name that isn't empty is that of a do where it is the plain text of its value
same_name : (name : List ℕ) (text : Option (List ℕ)) (empty : Bool) → IsTrue empty ↔ (name ≡ [])
    → empty ≡ false → is_text name text ≡ is_same_text name (unwrap_or text [])
same_name [] text empty when isnt = absurd (cc (when.1 refl, isnt))
same_name (c ∷ name) None empty when isnt = refl
same_name (c ∷ name) (Some other) empty when isnt = nat_list_eq_equiv.symm other (c ∷ name)

-- the text that a value has
abbrev text_in : Option (List Part) → Option (List ℕ)
text_in value = option_and_then plain_text value

pub returns-in-Some : goal.returns-in-Some
returns-in-Some c =
    c.is_text.ensures
    ∙ same_name c.args.name.now (plain_text c.in-Some.value) c.is_empty.result
    c.is_empty.ensures c.if-is_empty.false
    ∙ ap (λ (value : Option (List Part)).
    is_same_text c.args.name.now (unwrap_or (text_in value) []))
    (sym c.in-Some.is ∙ c.named_value.ensures)

pub returns-in-None : goal.returns-in-None
returns-in-None c =
    same_name c.args.name.now None c.is_empty.result c.is_empty.ensures c.if-is_empty.false
    ∙ ap (λ (value : Option (List Part)).
    is_same_text c.args.name.now (unwrap_or (text_in value) []))
    (sym c.in-None.is ∙ c.named_value.ensures)
