-- What a list comes to that is played by a session of its own.
use Rattle.std.proofs.Common.{◌≡◌, ℕ, List, [], ◌∷◌, ◌++◌, refl, sym}
use Rattle.std.proofs.Common.{◌+◌, length, ap, ap₂, subst, ◌∙◌, append_assoc, arith, Vec}
use Rattle.std.specs.Prelude.{is_some}
use Rattle.std.specs.List.{AllZip, flat_map, enumerate_from}
use Rattle.std.proofs.lemmas.List.FromFn.{length-enumerate_from}
use Rattle.std.specs.declared.alloc.Global.{Global}
use Rattle.wap_base.specs.declared.key.Key.{Key}
use Rattle.wap_base.specs.declared.key.Key.TheVariants.{Open}
use Rattle.wap_devices.proofs.Putting.{flat_map-append}
use Rattle.wap_world.specs.site.Pages.{Pages}
use Rattle.wap_world.specs.site.Asking.{Seen, MayBe}
use Rattle.wap_layout.specs.buffer.Written.{line_bytes, lines_bytes}
use Rattle.wap_world.specs.Steps.{Step}
use Rattle.wap_world.specs.Sessions.{Begun, shown_by}
use Rattle.wap_world.specs.scripting.UnitSites.{unit_pages, shelf_of}
use Rattle.wap_context.specs.Browsers.{IsOver}
use Rattle.wap_context.specs.Sites.{IfOver}
use Rattle.wap_session.specs.Feeding.{State, beginning, Leads, ShowsOn}
use Rattle.wap_cli.specs.Networks.{network_of}
use Rattle.wap_cli.specs.resume.Saving.{opened_at}

module _ (pages : Pages) (begun : Begun) (keys : List Key) (first last : State)
    (opened played : List (List ℕ))
    (leads : Leads (Open begun.url ∷ []) (unit_pages pages) (beginning begun) first opened)
    (shows : ShowsOn (Open begun.url ∷ []) (unit_pages pages) (beginning begun) first opened)
    (goes_on : Leads keys (unit_pages pages) first last played) where
  -- its lines are those of the URL that is opened, and of its keys
  lines_are : opened ++ played
      ≡ shown_by (opened_at begun (network_of (unit_pages pages)) keys)
  lines_are = ap (λ (l : List (List ℕ)). opened ++ l) goes_on.tells ∙ shows keys

  -- it ends in a dialog where the last step does
  open_is : is_some last.waiting ≡ (opened_at begun (network_of (unit_pages pages)) keys).is_open
  open_is = goes_on.asks_user ∙ sym (ap (λ (step : Step). step.is_open) (leads.on keys))

-- the same, as the calls of a session say it, after each of which these may be the pages
pub played_alone : (P : Pages) (one two : Seen) (begun : Begun) (key : Key) (keys : List Key)
    (state first last : State) (opened played : List (List ℕ)) → MayBe one P → MayBe two P
    → state ≡ beginning begun → key ≡ Open begun.url
    → IfOver one state.browser (λ of. Leads (key ∷ []) of state first opened)
    → IfOver one state.browser (λ of. ShowsOn (key ∷ []) of state first opened)
    → IfOver two first.browser (λ of. Leads keys of first last played)
    → (opened ++ played ≡ shown_by (opened_at begun (network_of (unit_pages P)) keys))
    × (is_some last.waiting ≡ (opened_at begun (network_of (unit_pages P)) keys).is_open)
played_alone P one two begun key keys state first last opened played now later begins opens leads
    shows goes_on =
    let of = unit_pages P in
    let leads_on =
    subst (λ (s : State). IsOver (shelf_of of) s.browser
    → Leads (Open begun.url ∷ []) of s first opened) begins
    (subst (λ (k : Key). IsOver (shelf_of of) state.browser
    → Leads (k ∷ []) of state first opened) opens (leads P now)) refl in
    let shows_on =
    subst (λ (s : State). IsOver (shelf_of of) s.browser
    → ShowsOn (Open begun.url ∷ []) of s first opened) begins
    (subst (λ (k : Key). IsOver (shelf_of of) state.browser
    → ShowsOn (k ∷ []) of state first opened) opens (shows P now)) refl in
    let on = goes_on P later leads_on.over in (
      lines_are P begun keys first last opened played leads_on shows_on on,
      open_is P begun keys first last opened played leads_on shows_on on,
    )

-- the bytes of a header, and of lines that were appended after it in two parts
pub bytes_are : (none begun some all first_line : List ℕ) (opened played : List (List ℕ))
    → none ≡ [] → begun ≡ none ++ first_line → some ≡ begun ++ lines_bytes opened
    → all ≡ some ++ lines_bytes played → all ≡ first_line ++ lines_bytes (opened ++ played)
bytes_are none begun some all first_line opened played empty headed one two =
    two
    ∙ ap (λ (l : List ℕ). l ++ lines_bytes played)
    (one ∙ ap (λ (l : List ℕ). l ++ lines_bytes opened)
    (headed ∙ ap (λ (l : List ℕ). l ++ first_line) empty))
    ∙ append_assoc first_line (lines_bytes opened) (lines_bytes played)
    ∙ ap (λ (l : List ℕ). first_line ++ l) (sym (flat_map-append line_bytes opened played))

-- ---- all lists

-- lists, each with its text
pub texts_are : {J : Type 0} (f : J → List ℕ) (jobs : List J) (texts : List (Vec ℕ Global))
    → AllZip (λ job text. text.items ≡ f job) jobs texts
    → flat_map (λ (text : Vec ℕ Global). text.items) texts ≡ flat_map f jobs
texts_are f [] [] right = refl
texts_are f [] (text ∷ texts) right = absurd right
texts_are f (job ∷ jobs) [] right = absurd right
texts_are f (job ∷ jobs) (text ∷ texts) right =
    ap₂ (λ (l m : List ℕ). l ++ m) right.0 (texts_are f jobs texts right.1)

-- one more list has the next number
numbered_more : {X : Type 0} (lists : List X) (list : X) (number : ℕ)
    → enumerate_from number (lists ++ list ∷ [])
    ≡ enumerate_from number lists ++ (number + length lists, list) ∷ []
numbered_more {X} [] list number = ap (λ (n : ℕ). (n, list) ∷ []) (omega arith)
numbered_more {X} (first ∷ lists) list number =
    ap (λ (l : List (ℕ × X)). (number, first) ∷ l)
    (numbered_more lists list (number + 1)
    ∙ ap (λ (n : ℕ). enumerate_from (number + 1) lists ++ (n, list) ∷ []) (omega arith))

-- so do lists that have theirs already, and one more
pub numbered_next : {X : Type 0} (lists : List X) (jobs : List (ℕ × X)) (list : X) (number : ℕ)
    → jobs ≡ enumerate_from 1 lists → number ≡ length jobs + 1
    → jobs ++ (number, list) ∷ [] ≡ enumerate_from 1 (lists ++ list ∷ [])
numbered_next {X} lists jobs list number are next =
    let many : length jobs ≡ length lists = ap length are ∙ length-enumerate_from 1 lists in
    let is : number ≡ 1 + length lists = omega (arith, next, many) in
    ap₂ (λ (l : List (ℕ × X)) (n : ℕ). l ++ (n, list) ∷ []) are is
    ∙ sym (numbered_more lists list 1)
