-- Which tokens spell a program (WAP-193, sections 6.4 and 6.7): pragmas, and then functions, one at
-- least.
use Rattle.std.specs.Prelude.{ℕ, Bool, true, false, List, [], ◌∷◌, Option, Some, None}
use Rattle.wap_grammar.specs.declared.program.program.Span.{Span}
use Rattle.wap_grammar.specs.declared.program.program.Id.{Id}
use Rattle.wap_grammar.specs.declared.program.program.Use.{Use}
use Rattle.wap_grammar.specs.declared.program.program.Use.TheVariants as pragma
use Rattle.wap_grammar.specs.declared.program.program.Function.{Function}
use Rattle.wap_grammar.specs.declared.program.program.Program.{Program}
use Rattle.wap_grammar.specs.declared.program.statement.Stmt.{Stmt}
use Rattle.wap_grammar.specs.declared.lexeme.Lexeme.{Lexeme}
use Rattle.wap_grammar.specs.declared.word.Word.TheVariants as word
use Rattle.wap_grammar.specs.declared.word.Sign.TheVariants as signs
use Rattle.wap_grammar.specs.Values.{id_of, text_of}
use Rattle.wap_grammar.specs.Spellings.{Spelling, token, name, sign, Several, AreListed}
use Rattle.wap_grammar.specs.Statements.{IsStatement}

-- a token that is a string
abbrev pub text : Span → Lexeme
text = token word.Str

-- from the first byte of a token to the last of another
abbrev pub from_to : Span → Span → Span
from_to first last = record { from = first.from; to = last.to }

-- ---- pragmas (WAP-193, section 6.7)

-- who may call the unit: a domain, a path or both
pub data IsAccess (src : List ℕ) : List Lexeme → Option (List ℕ) × Option (List ℕ) → List Lexeme →
    Type 0 where
  domain : (word d : Span) (x : List Lexeme) → IsAccess src (sign signs.Domain word ∷ text d ∷ x)
      (Some (text_of src d), None) x
  path : (word p : Span) (x : List Lexeme) → IsAccess src (sign signs.Path word ∷ text p ∷ x)
      (None, Some (text_of src p)) x
  both : (first d second p : Span) (x : List Lexeme) →
      IsAccess src (sign signs.Domain first ∷ text d ∷ sign signs.Path second ∷ text p ∷ x) (
        Some
            (text_of src d),
        Some (text_of src p),
      ) x

-- a property: its name, what it is, and a scheme or none
pub data IsProperty (src : List ℕ) : List Lexeme → List ℕ × List ℕ × Option (List ℕ) → List Lexeme →
    Type 0 where
  plain : (n c : Span) (x : List Lexeme) → IsProperty src (text n ∷ text c ∷ x)
      (text_of src n, text_of src c, None) x
  schemed : (n c s : Span) (x : List Lexeme) →
      IsProperty src (text n ∷ text c ∷ text s ∷ x) (
        text_of src n,
        text_of src c,
        Some
            (text_of src s),
      ) x

-- a pragma, with its `use` and its `;`
pub data IsUse (src : List ℕ) : List Lexeme → Use → List Lexeme → Type 0 where
  url : (word kind u t end : Span) (x : List Lexeme) →
      IsUse src (sign signs.Use word ∷ sign signs.Url kind ∷ name u ∷ text t ∷ sign signs.Semicolon
      end ∷ x)
      (pragma.Url (id_of src u) (text_of src t)) x
  access : (word kind end : Span) (x y : List Lexeme) (d p : Option (List ℕ)) →
      IsAccess src x (d, p) (sign signs.Semicolon end ∷ y) →
      IsUse src (sign signs.Use word ∷ sign signs.Access kind ∷ x) (pragma.Access d p
      (from_to word end)) y
  name_meta : (word kind of end : Span) (x y : List Lexeme) (n c : List ℕ) (s : Option (List ℕ)) →
      IsProperty src x (n, c, s) (sign signs.Semicolon end ∷ y) →
      IsUse src (sign signs.Use word ∷ sign signs.Meta kind ∷ sign signs.NameWord of ∷ x)
      pragma.Note y
  http_equiv : (word kind http equiv end : Span) (x y : List Lexeme) (n c : List ℕ) (s : Option
      (List ℕ)) →
      IsProperty src x (n, c, s) (sign signs.Semicolon end ∷ y) →
      IsUse src (sign signs.Use word ∷ sign signs.Meta kind ∷ sign signs.Http http ∷ sign
      signs.Equiv equiv ∷ x) pragma.Note y
  user_agent : (word kind user agent end : Span) (x y : List Lexeme) (n c : List ℕ) (s : Option
      (List ℕ)) →
      IsProperty src x (n, c, s) (sign signs.Semicolon end ∷ y) →
      IsUse src (sign signs.Use word ∷ sign signs.Meta kind ∷ sign signs.User user ∷ sign
      signs.Agent agent ∷ x) (pragma.Agent n c s) y

-- ---- functions (WAP-193, section 6.4)

-- the words before a function's name, which say whether other units may call it
pub data IsHead : List Lexeme → Bool → List Lexeme → Type 0 where
  own : (word : Span) (x : List Lexeme) → IsHead (sign signs.Function word ∷ x) false x
  external : (extern word : Span) (x : List Lexeme) → IsHead
      (sign signs.Extern extern ∷ sign signs.Function word ∷ x) true x

-- the name of a parameter
pub data IsParameter (src : List ℕ) : List Lexeme → Id → List Lexeme → Type 0 where
  parameter : (v : Span) (x : List Lexeme) → IsParameter src (name v ∷ x) (id_of src v) x

-- parameters, and the parenthesis after them
pub data AreParameters (src : List ℕ) : List Lexeme → List Id → List Lexeme → Type 0 where
  none : (right : Span) (x : List Lexeme) → AreParameters src (sign signs.Close right ∷ x) [] x
  some : (right : Span) (x y : List Lexeme) (ps : List Id) →
      AreListed (IsParameter src) x ps (sign signs.Close right ∷ y) →
      AreParameters src x ps y

-- the `;` that may stand after a function
pub data IsTail : List Lexeme → List Lexeme → Type 0 where
  without : (x : List Lexeme) → IsTail x x
  semicolon : (end : Span) (x : List Lexeme) → IsTail (sign signs.Semicolon end ∷ x) x

-- a function of such statements
pub data IsFunction (src : List ℕ) (Statement : Spelling Stmt) : List Lexeme → Function →
    List Lexeme → Type 0 where
  function : (f left opened closed : Span) (x y z u v : List Lexeme) (out : Bool) (ps : List Id)
      (ss : List Stmt) →
      IsHead x out (name f ∷ sign signs.Open left ∷ y) →
      AreParameters src y ps (sign signs.OpenBlock opened ∷ z) →
      Several Statement z ss (sign signs.CloseBlock closed ∷ u) → IsTail u v →
      IsFunction src Statement x (record {
        name = id_of src f;
        external = out;
        params = ps;
        body = ss;
      }) v

-- all tokens spell a program of such statements
pub data IsProgramOf (src : List ℕ) (Statement : Spelling Stmt) : List Lexeme → Program →
    Type 0 where
  program : (x y : List Lexeme) (us : List Use) (f : Function) (fs : List Function) →
      Several (IsUse src) x us y →
      Several (IsFunction src Statement) y (f ∷ fs) [] →
      IsProgramOf src Statement x (record { uses = us; functions = f ∷ fs })

-- all tokens spell a program whose statements span so many levels at most
abbrev pub IsProgram : List ℕ → ℕ → List Lexeme → Program → Type 0
IsProgram src levels = IsProgramOf src (IsStatement src levels)

-- all tokens spell a program, at whatever levels its parts stand
abbrev pub Spells : List ℕ → Program → List Lexeme → Type 0
Spells src p lexemes = (levels : ℕ) × IsProgram src levels lexemes p
