-- The documents that have a spelling: what bytes can spell, whatever its version and its character
-- set. Numbers are in the ranges of their types without a word here. This project's own.
use Rattle.std.specs.Prelude.{◌≡◌, ℕ, zero, suc, ◌%◌, ◌^◌, ◌<◌, ◌≤◌, true, List, length}
use Rattle.std.specs.List.{list_all, AllByRecursion}
use Rattle.std.specs.Str.{all_scalars}
use Rattle.wap_tokens.specs.declared.markup.codes.TheConstants.{LITERAL}
use Rattle.wap_tokens.specs.declared.markup.document.TheConstants.{LEVEL_LIMIT}
use Rattle.wap_tokens.specs.declared.markup.document.Document.{Document}
use Rattle.wap_tokens.specs.declared.markup.document.Element.{Element}
use Rattle.wap_tokens.specs.declared.markup.document.Attr.{Attr}
use Rattle.wap_tokens.specs.declared.markup.document.Token.{Token}
use Rattle.wap_tokens.specs.declared.markup.document.Token.TheVariants.{Code, Literal}
use Rattle.wap_tokens.specs.declared.markup.document.Piece.{Piece}
use Rattle.wap_tokens.specs.declared.markup.document.Piece.TheVariants as piece
use Rattle.wap_tokens.specs.declared.markup.document.Kid.{Kid, out-Kid}
use Rattle.wap_tokens.specs.declared.markup.document.Kid.TheOpen.{Kid-F}
use Rattle.wap_tokens.specs.markup.Charsets.{is_character}
use Rattle.wap_tokens.specs.markup.Strings.{is_not_zero}
use Rattle.wap_tokens.specs.markup.Grammar.{table_size}
use Rattle.wap_tokens.specs.markup.Documents.{is_public}
use Rattle.wap_wbxml.specs.spelling.Names.{KidLevel, names_of}

-- a string ends at a 0, so it has no U+0000
abbrev pub HasNoZero : List ℕ → Type 0
HasNoZero text = list_all is_not_zero text ≡ true

-- and it is of characters, as each Text is
abbrev pub IsString : List ℕ → Type 0
IsString text = HasNoZero text × (all_scalars text ≡ true)

-- ---- codes where codes can stand, characters, lengths and strings

module _ (Is : List ℕ → Type 0) where
  -- a code that a tag can have in its low six bits, or a name
  abbrev pub FitsTag : Token → Type 0
  FitsTag (Code code) = (LITERAL < code) × (code < 64)
  FitsTag (Literal name) = Is name

  -- a code that can start an attribute, or a name
  abbrev pub FitsStart : Token → Type 0
  FitsStart (Code code) = (LITERAL < code % 64) × (code < 128)
  FitsStart (Literal name) = Is name

  -- a part of a value that bytes can spell
  abbrev pub FitsPiece : Piece → Type 0
  FitsPiece (piece.Code page code) = (LITERAL < code % 64) × (128 ≤ code)
  FitsPiece (piece.Str text) = Is text
  FitsPiece (piece.Entity number) = is_character number ≡ true
  FitsPiece (piece.Var name conv) = Is name
  FitsPiece (piece.Ext number) = number < 3
  FitsPiece (piece.Opaque bytes) = length bytes < 2 ^ 32

  -- an attribute whose start and parts of a value bytes can spell
  pub record FitsAttr (attr : Attr) : Type 0 where
    pub start : FitsStart attr.start
    pub value : AllByRecursion FitsPiece attr.value

  -- a part of content that bytes can spell, by which elements they can
  abbrev pub FitsOpened : (Element → Type 0) → KidLevel → Type 0
  FitsOpened inner (Kid-F.Element element) = inner element
  FitsOpened inner (Kid-F.Str text) = Is text
  FitsOpened inner (Kid-F.Entity number) = is_character number ≡ true
  FitsOpened inner (Kid-F.Var name conv) = Is name
  FitsOpened inner (Kid-F.Ext number) = number < 3
  FitsOpened inner (Kid-F.Opaque bytes) = length bytes < 2 ^ 32
  FitsOpened inner (Kid-F.Pi attr) = FitsAttr attr

  -- the same of a part of content that isn't opened yet
  abbrev pub FitsKid : (Element → Type 0) → Kid → Type 0
  FitsKid inner kid = FitsOpened inner (out-Kid kid)

  -- an element whose tag, attributes and content bytes can spell, its own elements among them
  pub record FitsElementOf (inner : Element → Type 0) (element : Element) : Type 0 where
    pub tag : FitsTag element.tag
    pub attrs : AllByRecursion FitsAttr element.attrs
    pub kids : AllByRecursion (FitsKid inner) element.kids

  -- an element of at most so many levels
  unfoldable pub FitsElement : ℕ → Element → Type 0
  FitsElement zero element = ⊥
  FitsElement (suc levels) element = FitsElementOf (FitsElement levels) element

-- ---- documents

-- bytes can spell the document: it is WML's, its elements fit, and its names fit into a string
-- table
pub record IsSpellable (document : Document) : Type 0 where
  pub public : is_public document.public ≡ true
  pub root : FitsElement HasNoZero LEVEL_LIMIT document.root
  pub names : table_size (names_of document) < 2 ^ 32

-- all of its strings are of characters, as each Text is
abbrev pub HasTexts : Document → Type 0
HasTexts document = FitsElement IsString LEVEL_LIMIT document.root
