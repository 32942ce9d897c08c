-- What a session over a made folder comes to.
use Rattle.std.proofs.Common.{◌≡◌, ℕ, ◌+◌, ◌-◌, List, [], ◌∷◌, ◌++◌, Ok, length}
use Rattle.std.proofs.Common.{drop, map, replicate, refl, sym, ap, ap₂, subst, ◌∙◌, arith}
use Rattle.std.specs.Prelude.{codes, decimal}
use Rattle.std.specs.List.{range_with_len}
use Rattle.std.proofs.Math.Seq.{drop-append_seam}
use Rattle.std.proofs.lemmas.List.{length-append}
use Rattle.std.proofs.lemmas.List.FromFn.{length-map-range_with_len}
use Rattle.std.proofs.lemmas.Map.Entries.{length-keys_of}
use Rattle.wap_base.specs.Contents.{Contents, names_of}
use Rattle.wap_base.specs.declared.key.Key.{Key}
use Rattle.wap_base.specs.declared.key.Key.TheVariants.{Open, Vars}
use Rattle.wap_devices.specs.Stores.{Known, Held, Fits, Grew}
use Rattle.wap_devices.proofs.Telling.{held_still}
use Rattle.wap_make.specs.Folders.{folder, deck_count, deck_page, script_name, script}
use Rattle.wap_pages.specs.Judged.{judged}
use Rattle.wap_world.specs.site.Asking.{Seen, MayBe, Stays}
use Rattle.wap_world.proofs.SiteLemmas.Asking.{Stays-then, Stays-may}
use Rattle.wap_world.specs.site.Pages.{Pages}
use Rattle.wap_world.specs.Sites.{Site}
use Rattle.wap_world.specs.scripting.UnitSites.{unit_pages}
use Rattle.wap_context.specs.Sites.{site_of}
use Rattle.wap_session.specs.Feeding.{State, Plays, beginning}
use Rattle.wap_session.proofs.Playing.{plays_more}
use Rattle.wap_cli.specs.declared.made.playing.Played.{Played as Came}
use Rattle.wap_cli.specs.declared.made.making.Tour.{Tour}
use Rattle.wap_cli.specs.Networks.{over}
use Rattle.wap_cli.specs.made.Making.{made_begun, made_keys, made_report, first_url, onward}
use Rattle.wap_cli.specs.made.Making.{value_in, made_line}
use Rattle.wap_cli.specs.made.inside.Counting.{accepted_in}
use Rattle.wap_cli.specs.made.inside.Tours.{made_pages, made_site, IsMade, lines_by, IsPlayed}
use Rattle.wap_cli.specs.made.inside.Tours.{IsTour, report_of}
use Rattle.wap_cli.proofs.MadeLemmas.Counting.{same_accepted}

-- ---- the folder

-- one page more than decks
page_count : (n : ℕ) → length (folder n) ≡ deck_count n + 1
page_count n =
    let decks = map (deck_page n) (range_with_len 0 (deck_count n)) in
    length-append decks ((script_name, script) ∷ [])
    ∙ ap (λ (count : ℕ). count + 1) (length-map-range_with_len (deck_page n) 0 (deck_count n))

-- ---- the session

-- its lines, and those of the variables after them
in_parts : (site : Site) (keys : List Key) (lines more : List (List ℕ)) (came : Came)
    → lines ≡ lines_by site keys → lines ++ more ≡ lines_by site (keys ++ Vars ∷ [])
    → came.lines ≡ length lines → came.sum.items ≡ value_in more → IsPlayed site keys came
in_parts site keys lines more came first all counted text = record {
  lines = counted ∙ ap length first;
  sum = text ∙ ap value_in (sym (drop-append_seam lines more))
      ∙ ap₂ (λ (n : ℕ) (l : List (List ℕ)). value_in (drop n l)) (ap length first) all;
}

-- keys that were played from the beginning, and then the key that asks for the variables
pub is_played : (keys : List Key) (before mid after : Seen) (old now new : State)
    (lines more : List (List ℕ)) (came : Came) → old ≡ beginning made_begun
    → Plays keys before mid old now (Ok lines) → Plays (Vars ∷ []) mid after now new (Ok more)
    → came.lines ≡ length lines → came.sum.items ≡ value_in more
    → (judged : Pages) → MayBe after judged → IsPlayed (site_of (unit_pages judged)) keys came
is_played keys before mid after old now new lines more came begun so next counted text judged may =
    let first : Plays keys before mid (beginning made_begun) now (Ok lines) =
    subst (λ (state : State). Plays keys before mid state now (Ok lines)) begun so in
    let all = plays_more first next in
    in_parts (site_of (unit_pages judged)) keys lines more came
    (first.leads judged (Stays-may mid after next.stays judged may) refl).tells
    (all.leads judged may refl).tells counted text

-- ---- the whole

-- a folder in memory is the same after any calls
may_be_made : (pages : Contents) (first after : Seen) → IsMade pages first → Stays first after
    → MayBe after (judged pages)
may_be_made pages first after made stays =
    let still : after.known ≡ Held pages =
    held_still pages after.known
    (subst (λ (known : Known). Grew known after.known) made.known stays.known) in
    record {
      contents = pages;
      agrees = record {
        distinct = made.distinct;
        fits = subst (λ (known : Known). Fits known pages) (sym still) refl;
      };
      are = ap (λ (judge : Contents → Pages). judge pages) (sym (stays.judge ∙ made.judge));
    }

-- what was judged and browsed is the folder of the number
pub is_tour : (n : ℕ) (pages : Contents) (names listed : List (List ℕ)) (keys given : List Key)
    (first second third : Seen) (tour : Tour) → pages ≡ folder n → names ≡ names_of pages
    → listed ≡ names → keys ≡ Open first_url ∷ replicate (length names - 1) onward → given ≡ keys
    → IsMade pages first → Stays first second → Stays second third → tour.pages ≡ length names
    → ((known : Pages) → MayBe second known → tour.accepted ≡ length (accepted_in known listed))
    → ((known : Pages) → MayBe third known
    → IsPlayed (site_of (unit_pages known)) given tour.played)
    → IsTour n tour
is_tour n pages names listed keys given first second third tour paged named lists pressed gives kept
    once again counted accepted came =
    let is_named : names ≡ names_of (folder n) = named ∙ ap names_of paged in
    let many : length names ≡ length (folder n) = ap length is_named ∙ length-keys_of (folder n) in
    let decks : length names - 1 ≡ deck_count n = omega (many, page_count n, arith) in
    let goes : given ≡ Open first_url ∷ made_keys n =
    gives ∙ pressed ∙ ap (λ (count : ℕ). Open first_url ∷ replicate count onward) decks in
    let made : IsMade (folder n) first = subst (λ (p : Contents). IsMade p first) paged kept in
    let played : IsPlayed (made_site n) (Open first_url ∷ made_keys n) tour.played =
    subst (λ (l : List Key). IsPlayed (made_site n) l tour.played) goes
    (came (made_pages n) (may_be_made (folder n) first third made
    (Stays-then first second third once again))) in
    record {
      pages = counted ∙ many;
      accepted = accepted (made_pages n) (may_be_made (folder n) first second made once)
          ∙ ap (λ (l : List (List ℕ)). length (accepted_in (made_pages n) l)) (lists ∙ is_named)
          ∙ ap length (same_accepted (made_pages n) (names_of (folder n)));
      lines = played.lines;
      sum = played.sum;
    }

-- the lines on it
pub report_is : (n : ℕ) (tour : Tour) → IsTour n tour
    → report_of tour ≡ made_report n (over (made_site n))
report_is n tour so =
    ap₂ (λ (a b : List ℕ). a ++ b)
    (ap (λ (m : ℕ). made_line (codes "pages") (decimal m)) so.pages)
    (ap₂ (λ (a b : List ℕ). a ++ b)
    (ap (λ (m : ℕ). made_line (codes "ok") (decimal m)) so.accepted)
    (ap₂ (λ (a b : List ℕ). a ++ b)
    (ap (λ (m : ℕ). made_line (codes "lines") (decimal m)) so.lines)
    (ap (made_line (codes "t")) so.sum)))
