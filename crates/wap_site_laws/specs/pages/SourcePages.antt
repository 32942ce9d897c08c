-- The pages of a store as its names and bytes say, with programs for sources of scripts. They are
-- said by the relations of bytes, documents, decks, units and sources alone. This project's own.
use Rattle.std.specs.Prelude.{◌≡◌, ℕ, ◌<◌, ◌^◌, List, length}
use Rattle.std.specs.List.{AllZip}
use Rattle.wap_base.specs.Contents.{Contents}
use Rattle.wap_tokens.specs.declared.markup.deck.Deck.{Deck}
use Rattle.wap_unit.specs.declared.unit.Unit.{Unit}
use Rattle.wap_grammar.specs.declared.program.program.Program.{Program}
use Rattle.wap_meaning.specs.compiled.Accepted.{IsAccepted}
use Rattle.wap_world.specs.scripting.ScriptPages.{PageOf, deck, script, words, refused}
use Rattle.wap_world.specs.scripting.Sources.{Script, of_unit, of_source, AllPages}
use Rattle.wap_site_laws.specs.programs.Programs.{Accepted}
use Rattle.wap_pages.specs.Judged.{AreBytes, IsDeckPage, IsUnitPage, IsSourcePage, IsTextPage}

-- a source with its program, which it is accepted for
abbrev pub source_of : (bytes : List ℕ) (p : Program) → IsAccepted bytes p → Script Accepted
source_of bytes p accepted = of_source (record { source = bytes; program = p; is = accepted })

-- bytes that under this name are no page of the four kinds
pub record IsNone (name bytes : List ℕ) : Type 0 where
  pub are : AreBytes bytes
  pub no_deck : (one : Deck) → ¬ IsDeckPage name bytes one
  pub no_unit : (one : Unit) → ¬ IsUnitPage name bytes one
  pub no_source : (p : Program) → ¬ IsSourcePage name bytes p
  pub no_text : (text : List ℕ) → ¬ IsTextPage name bytes text

-- the page of a name with these bytes: a good deck, a unit that may be run, the program of a
-- source, a text; or it is refused, where there is none of these
pub data IsPage (name bytes : List ℕ) : PageOf (Script Accepted) → Type 0 where
  a_deck : (one : Deck) → IsDeckPage name bytes one → IsPage name bytes (deck one)
  a_unit : (one : Unit) → IsUnitPage name bytes one → IsPage name bytes (script (of_unit one))
  a_source : (p : Program) (is : IsSourcePage name bytes p)
      → IsPage name bytes (script (source_of bytes p is.accepted))
  a_text : (text : List ℕ) → IsTextPage name bytes text → IsPage name bytes (words text)
  none : IsNone name bytes → IsPage name bytes refused

-- a page under its name
abbrev pub IsEntry : List ℕ × List ℕ → List ℕ × PageOf (Script Accepted) → Type 0
IsEntry entry one = (one.0 ≡ entry.0) × IsPage entry.0 entry.1 one.1

-- the pages of a store: its names in their order, each with its page
abbrev pub ArePages : Contents → AllPages Accepted → Type 0
ArePages contents pages = AllZip IsEntry contents pages

-- what a store may hold: bytes, fewer than 2^31 of them in a page
abbrev pub IsStored : List ℕ × List ℕ → Type 0
IsStored entry = AreBytes entry.1 × (length entry.1 < 2 ^ 31)
