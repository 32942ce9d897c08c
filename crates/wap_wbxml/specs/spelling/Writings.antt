-- How what is written for a document is put together. This project's own.
use Rattle.std.specs.Prelude.{ℕ, ◌==◌, if◌then◌else◌, List, [], ◌∷◌, ◌++◌}
use Rattle.wap_tokens.specs.declared.markup.codes.TheConstants.{SWITCH_PAGE, END}
use Rattle.wap_wbxml.specs.declared.spelling.output.Pages.{Pages}

-- from the pages of codes on which it begins: its bytes, and the pages on which it ends
abbrev pub Writing : Type 0
Writing = Pages → List ℕ × Pages

-- bytes that are the same on all pages
abbrev pub plain : List ℕ → Writing
plain bytes pages = (bytes, pages)

-- one, and another one after it
infixr 25 ◌⨾◌
unfoldable pub ◌⨾◌ : Writing → Writing → Writing
(first ⨾ next) pages =
    let a = first pages in
    let b = next a.1 in
    (a.0 ++ b.0, b.1)

-- one for each item, one after the other
unfoldable pub each : {A : Type 0} → (A → Writing) → List A → Writing
each write [] = plain []
each write (x ∷ xs) = write x ⨾ each write xs

-- the same and an end, where there is an item
abbrev pub ended : {A : Type 0} → (A → Writing) → List A → Writing
ended write [] = plain []
ended write (x ∷ xs) = each write (x ∷ xs) ⨾ plain (END ∷ [])

-- a switch of the page, where it is another one
abbrev pub switch : ℕ → ℕ → List ℕ
switch page next = if next == page then [] else SWITCH_PAGE ∷ next ∷ []

-- onto this page of tags, by a switch where another one counts
abbrev pub on_tag_page : ℕ → Writing
on_tag_page next pages = (switch pages.tag next, record pages { tag = next })

-- onto this page of attributes, by a switch where another one counts
abbrev pub on_attribute_page : ℕ → Writing
on_attribute_page next pages = (switch pages.attribute next, record pages { attribute = next })
