-- What is shown of service indications (WAP-167, section 6). The lines are this project's own.
use Rattle.std.specs.Prelude.{ℕ, suc, ◌-◌, ◌&&◌, ◌||◌, not, nat_le, Bool, if◌then◌else◌}
use Rattle.std.specs.Prelude.{List, [], ◌∷◌, ◌++◌, codes, decimal, length, replicate}
use Rattle.std.specs.List.{list_all}
use Rattle.wap_base.specs.Ascii.{space, digit_zero}
use Rattle.wap_push.specs.declared.indication.Indication.{Indication}
use Rattle.wap_push.specs.declared.fault.PushFault.{PushFault}
use Rattle.wap_push.specs.Inbox.{is_of, alerts}
use Rattle.wap_push.specs.Printing.{push_text}

-- why what was pushed is no indication
abbrev pub no_push_line : PushFault → List ℕ
no_push_line why = codes "! push " ++ push_text why

-- ---- when an indication comes

-- whether no push of the same identifier was made later
abbrev pub is_latest : List Indication → Indication → Bool
is_latest pushes pushed =
    list_all (λ other. not (is_of pushed.id other) || nat_le other.created pushed.created) pushes

-- the line of an indication; the space stands also before an empty text
abbrev pub notice_line : Indication → List ℕ
notice_line pushed = codes "+ " ++ pushed.text

-- what is shown when an indication comes after these pushes: it is the winner of its identifier,
-- and is to be met like this
abbrev pub notice_lines : List Indication → Indication → List (List ℕ)
notice_lines pushes pushed =
    if alerts pushed.action && is_latest pushes pushed then notice_line pushed ∷ [] else []

-- ---- entries

-- fourteen digits, YYYYMMDDhhmmss
abbrev pub time_text : ℕ → List ℕ
time_text time = replicate (14 - length (decimal time)) digit_zero ++ decimal time

-- an entry by its number: when it was made, and its text
abbrev pub entry_line : ℕ → Indication → List ℕ
entry_line number entry =
    codes "@ " ++ decimal number ++ space ∷ time_text entry.created ++ space ∷ entry.text

-- entries, the first of which has this number
abbrev pub entry_lines : ℕ → List Indication → List (List ℕ)
entry_lines number [] = []
entry_lines number (entry ∷ entries) = entry_line number entry ∷ entry_lines (suc number) entries
