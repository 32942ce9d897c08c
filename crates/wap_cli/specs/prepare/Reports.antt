-- The report on the pages of a folder: the name of each with its kind and whether it is refused, in
-- order, and how many there are. This project's own.
use Rattle.std.specs.Prelude.{◌≡◌, ℕ, Bool, false, List, ◌++◌, Option, Some, None, is_none}
use Rattle.std.specs.Prelude.{All, length, filter, codes, decimal, encode_utf8_all}
use Rattle.std.specs.List.{flat_map}
use Rattle.std.specs.List.Sorted.{IsPermutation}
use Rattle.std.specs.Map.{keys_of}
use Rattle.wap_base.specs.Contents.{Contents, names_of}
use Rattle.wap_base.specs.Controls.{shown_text}
use Rattle.wap_base.specs.Texts.{AreAscending}
use Rattle.wap_devices.specs.Stores.{Known, Agrees}
use Rattle.wap_pages.specs.declared.fault.PageFault.{PageFault}
use Rattle.wap_pages.specs.declared.fault.PageFault.TheVariants.{Missing}
use Rattle.wap_pages.specs.declared.kind.Kind.{Kind}
use Rattle.wap_pages.specs.declared.kind.Kind.TheVariants as kind
use Rattle.wap_pages.specs.Judged.{kind_of, Refuses}
use Rattle.wap_pages.specs.Printing.{page_text}
use Rattle.wap_cli.specs.Answers.{IsPageOf}
use Rattle.wap_pages.specs.Memory.{is_of_memory}

-- ---- what a page is judged

-- the fault for which it is refused, or none, by its name and its bytes
abbrev pub IsVerdict : List ℕ → Option (List ℕ) → Option PageFault → Type 0
IsVerdict name (Some bytes) (Some fault) = Refuses name bytes fault
IsVerdict name (Some bytes) None = (fault : PageFault) → ¬ Refuses name bytes fault
IsVerdict name None verdict = verdict ≡ Some Missing

-- which is no fault that says that memory ran out
abbrev pub IsForFault : Option PageFault → Type 0
IsForFault verdict = (fault : PageFault) → verdict ≡ Some fault → is_of_memory fault ≡ false

-- a name, and what its page is judged
abbrev pub Entry : Type 0
Entry = List ℕ × Option PageFault

-- an entry is right for some page, which is that of the name whatever the pages of the store may
-- be; and out of memory is no reason to refuse
pub record IsEntry (known : Known) (entry : Entry) : Type 0 where
  pub page : Option (List ℕ)
  pub is : IsPageOf known entry.0 page
  pub verdict : IsVerdict entry.0 page entry.1
  pub of_reason : IsForFault entry.1

-- the entries of all pages, in the order of the UTF-8 bytes of their names
pub record AreEntries (known : Known) (entries : List Entry) : Type 0 where
  pub ascending : AreAscending (keys_of entries)
  pub all : (pages : Contents) → Agrees known pages
      → IsPermutation (names_of pages) (keys_of entries)
  pub right : All (IsEntry known) entries

-- ---- how it is written

-- what a page of a kind is called
abbrev pub name_of_kind : Kind → List ℕ
name_of_kind kind.Source = codes "source"
name_of_kind kind.Unit = codes "unit"
name_of_kind kind.Words = codes "text"
name_of_kind kind.Deck = codes "deck"

-- what the page of a name is read as, which its end says
abbrev pub kind_word : List ℕ → List ℕ
kind_word name = name_of_kind (kind_of name)

abbrev pub verdict_text : Option PageFault → List ℕ
verdict_text None = codes "ok"
verdict_text (Some fault) = codes "refused " ++ page_text fault

-- a line: the name, its control characters as dots, the kind, and the verdict
abbrev pub entry_line : Entry → List ℕ
entry_line entry = encode_utf8_all (shown_text entry.0) ++ (codes " " ++ (kind_word entry.0
    ++ (codes " " ++ (verdict_text entry.1 ++ codes "\n"))))

-- there is no fault for which the page is refused
unfoldable pub is_accepted : Entry → Bool
is_accepted entry = is_none entry.1

-- how many are accepted
abbrev pub accepted : List Entry → ℕ
accepted entries = length (filter is_accepted entries)

-- the last line: how many pages there are, and how many of them are accepted
abbrev pub last_line : List Entry → List ℕ
last_line entries = codes "pages " ++ (decimal (length entries)
    ++ (codes " ok " ++ (decimal (accepted entries) ++ codes "\n")))

abbrev pub report : List Entry → List ℕ
report entries = flat_map entry_line entries ++ last_line entries
