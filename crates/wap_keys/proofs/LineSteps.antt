-- A line is taken from a reader.
use Rattle.std.proofs.Common.{◌≡◌, ◌≢◌, ℕ, ◌+◌, ◌<◌, Bool, true, List, [], ◌∷◌, ◌++◌, length}
use Rattle.std.proofs.Common.{take, drop, Option, Result, Ok, Err, refl}
use Rattle.std.proofs.Common.{sym, ap, ap₂, subst, ◌∙◌, append_assoc, arith}
use Rattle.std.specs.Prelude.{◌==◌, not, ◌&&◌}
use Rattle.std.proofs.lemmas.Bool.{eqb-true}
use Rattle.std.proofs.lemmas.List.{length-append, drop-drop}
use Rattle.std.proofs.lemmas.List.Folds.{list_all-append}
use Rattle.wap_base.proofs.Choices.{nil_of}
use Rattle.wap_keys.specs.declared.fault.KeyFault.{KeyFault}
use Rattle.wap_keys.specs.declared.fault.KeyFault.TheVariants.{TooLong, NoMemory}
use Rattle.wap_keys.specs.declared.prefix.Prefix.TheVariants as prefix
use Rattle.wap_keys.specs.declared.ending.Ending.{Ending}
use Rattle.wap_keys.specs.declared.ending.Ending.TheVariants.{BadKey}
use Rattle.wap_keys.specs.Lines.{Meaning, lines_of, said_from, key_before, without_return}
use Rattle.wap_keys.specs.KeyReaders.{Reading, said_yet}
use Rattle.wap_keys.specs.Prefixes.{is_unended, TakesPrefix}
use Rattle.wap_keys.specs.inside.Taking.{Advances, TakesSaid}
use Rattle.wap_keys.proofs.LineLaws.{line_before, too_long}

pub no_bytes : (bytes : List ℕ) → (length bytes == 0) ≡ true → bytes ≡ []
no_bytes bytes none = nil_of bytes (eqb-true (length bytes) 0 none)

both_unended : (line more : List ℕ) → is_unended line ≡ true → is_unended more ≡ true
    → is_unended (line ++ more) ≡ true
both_unended line more all others =
    list_all-append (λ c. not (c == 10)) line more
    ∙ ap (λ (b : Bool). b && is_unended more) all ∙ others

-- what the line says, by what its content says
said_by : {A : Type 0} (meaning : Meaning A) (old new : Reading) (said : Result (Option A) KeyFault)
    → said ≢ Err NoMemory → Advances old new
    → ((ending : Ending) (rest : List ℕ) → said_yet meaning old ending rest
    ≡ key_before old.number said (said_yet meaning new ending rest))
    → TakesSaid meaning old new said
said_by meaning old new (Ok key) known advances says = (advances, says)
said_by meaning old new (Err fault) known (count, over, fewer) says =
    (λ want. known (ap Err want), over, says)

pub takes_whole : {A : Type 0} (meaning : Meaning A) (old : Reading)
    (line piece whole cleared : List ℕ) (at place number count : ℕ) (over : Bool)
    (said : Result (Option A) KeyFault)
    → record { unread = line ++ drop at piece; number = number; count = count; over = over } ≡ old
    → is_unended line ≡ true
    → TakesPrefix line whole (drop at piece) (prefix.Whole place)
    → said ≡ meaning (without_return whole) → said ≢ Err NoMemory → cleared ≡ []
    → TakesSaid meaning old (record {
      unread = cleared ++ drop (at + (place + 1)) piece;
      number = number + 1;
      count = count;
      over = over;
    }) said
takes_whole meaning old line piece whole cleared at place number count over said view all
    (within, split, unended, is, short) says known empty =
    let unread = drop at piece in
    let begun = take place unread in
    let more = drop (place + 1) unread in
    let left = drop (at + (place + 1)) piece in
    let same : more ≡ left = drop-drop (place + 1) at piece in
    let new : Reading =
    record { unread = cleared ++ left; number = number + 1; count = count; over = over } in
    let all_whole : is_unended whole ≡ true =
    ap is_unended is ∙ both_unended line begun all unended in
    let parts : line ++ unread ≡ whole ++ 10 ∷ left =
    ap (λ (l : List ℕ). line ++ l) split ∙ sym (append_assoc line begun (10 ∷ more))
    ∙ ap (λ (l : List ℕ). l ++ 10 ∷ more) (sym is) ∙ ap (λ (l : List ℕ). whole ++ 10 ∷ l) same in
    let none : new.unread ≡ left = ap (λ (l : List ℕ). l ++ left) empty in
    let fewer : length new.unread < length (line ++ unread) =
    omega (arith, ap length parts, ap length none, length-append whole (10 ∷ left)) in
    let before : Reading =
    record { unread = line ++ unread; number = number; count = count; over = over } in
    let tells : (ending : Ending) (rest : List ℕ) → said_yet meaning before ending rest
    ≡ key_before number said (said_yet meaning new ending rest) =
    λ ending rest.
    ap (λ (l : List ℕ). said_from meaning ending number (lines_of (l ++ rest))) parts
    ∙ ap (λ (l : List ℕ). said_from meaning ending number (lines_of l))
    (append_assoc whole (10 ∷ left) rest)
    ∙ line_before meaning ending number whole (left ++ rest) all_whole short
    ∙ ap₂ (λ said (l : List ℕ).
    key_before number said (said_from meaning ending (number + 1) (lines_of (l ++ rest))))
    (sym says) (sym none) in
    subst (λ (r : Reading). TakesSaid meaning r new said) view
    (said_by meaning before new said known (refl, refl, fewer) tells)

pub takes_long : {A : Type 0} (meaning : Meaning A) (old : Reading) (line unread new : List ℕ)
    → line ++ unread ≡ old.unread
    → is_unended line ≡ true → TakesPrefix line new unread prefix.TooLong
    → (ending : Ending) (rest : List ℕ)
    → said_yet meaning old ending rest ≡ record { keys = []; ending = BadKey old.number TooLong }
takes_long meaning old line unread new view all (begun, others, split, unended, many, is) ending
    rest =
    ap (λ (l : List ℕ). said_from meaning ending old.number (lines_of (l ++ rest)))
    (sym view ∙ ap (λ (l : List ℕ). line ++ l) split ∙ sym (append_assoc line begun others))
    ∙ ap (λ (l : List ℕ). said_from meaning ending old.number (lines_of l))
    (append_assoc (line ++ begun) others rest)
    ∙ too_long meaning ending old.number (line ++ begun) (others ++ rest)
    (both_unended line begun all unended) (omega (arith, many, length-append line begun))
