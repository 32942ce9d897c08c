-- Words (WAP-193, sections 6.1.6 and 6.1.7).
use Rattle.std.specs.Prelude.{Bool, ℕ, List, [], ◌∷◌, codes}
use Rattle.std.specs.List.{list_any}
use Rattle.wap_base.specs.Texts.{is_same_text}

-- the words that are no names
unfoldable pub reserved_words : List (List ℕ)
reserved_words =
    codes "access" ∷ codes "agent" ∷ codes "break" ∷ codes "case" ∷ codes "catch" ∷ codes "class" ∷
    codes "const" ∷ codes "continue" ∷ codes "debugger" ∷ codes "default" ∷ codes "delete" ∷
    codes "div" ∷ codes "do" ∷ codes "domain" ∷ codes "else" ∷ codes "enum" ∷ codes "equiv" ∷
    codes "export" ∷ codes "extends" ∷ codes "extern" ∷ codes "false" ∷ codes "finally" ∷
    codes "for" ∷ codes "function" ∷ codes "header" ∷ codes "http" ∷ codes "if" ∷ codes "import" ∷
    codes "in" ∷ codes "invalid" ∷ codes "isvalid" ∷ codes "lib" ∷ codes "meta" ∷ codes "name" ∷
    codes "new" ∷ codes "null" ∷ codes "path" ∷ codes "private" ∷ codes "public" ∷ codes "return" ∷
    codes "sizeof" ∷ codes "struct" ∷ codes "super" ∷ codes "switch" ∷ codes "this" ∷
    codes "throw" ∷ codes "true" ∷ codes "try" ∷ codes "typeof" ∷ codes "url" ∷ codes "use" ∷
    codes "user" ∷ codes "var" ∷ codes "void" ∷ codes "while" ∷ codes "with" ∷ []

-- whether a word is no name
abbrev pub is_reserved : List ℕ → Bool
is_reserved word = list_any (is_same_text word) reserved_words
