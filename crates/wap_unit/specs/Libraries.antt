-- The libraries (WAP-194): each function with the number of its library, its number in it, how many
-- arguments it takes, and both names.
use Rattle.std.specs.Prelude.{ℕ, Bool, ◌==◌, ◌&&◌, bytes_eq, codes}
use Rattle.std.specs.Prelude.{encode_utf8_all, map, List, [], ◌∷◌, Option}
use Rattle.std.specs.Map.{lookup}

-- the functions, in the order of their numbers
abbrev pub library : List (ℕ × ℕ × ℕ × List ℕ × List ℕ)
library =
    (0, 0, 1, codes "Lang", codes "abs") ∷
    (0, 1, 2, codes "Lang", codes "min") ∷
    (0, 2, 2, codes "Lang", codes "max") ∷
    (0, 3, 1, codes "Lang", codes "parseInt") ∷
    (0, 4, 1, codes "Lang", codes "parseFloat") ∷
    (0, 5, 1, codes "Lang", codes "isInt") ∷
    (0, 6, 1, codes "Lang", codes "isFloat") ∷
    (0, 7, 0, codes "Lang", codes "maxInt") ∷
    (0, 8, 0, codes "Lang", codes "minInt") ∷
    (0, 9, 0, codes "Lang", codes "float") ∷
    (0, 10, 1, codes "Lang", codes "exit") ∷
    (0, 11, 1, codes "Lang", codes "abort") ∷
    (0, 12, 1, codes "Lang", codes "random") ∷
    (0, 13, 1, codes "Lang", codes "seed") ∷
    (0, 14, 0, codes "Lang", codes "characterSet") ∷
    (1, 0, 1, codes "Float", codes "int") ∷
    (1, 1, 1, codes "Float", codes "floor") ∷
    (1, 2, 1, codes "Float", codes "ceil") ∷
    (1, 3, 2, codes "Float", codes "pow") ∷
    (1, 4, 1, codes "Float", codes "round") ∷
    (1, 5, 1, codes "Float", codes "sqrt") ∷
    (1, 6, 0, codes "Float", codes "maxFloat") ∷
    (1, 7, 0, codes "Float", codes "minFloat") ∷
    (2, 0, 1, codes "String", codes "length") ∷
    (2, 1, 1, codes "String", codes "isEmpty") ∷
    (2, 2, 2, codes "String", codes "charAt") ∷
    (2, 3, 3, codes "String", codes "subString") ∷
    (2, 4, 2, codes "String", codes "find") ∷
    (2, 5, 3, codes "String", codes "replace") ∷
    (2, 6, 2, codes "String", codes "elements") ∷
    (2, 7, 3, codes "String", codes "elementAt") ∷
    (2, 8, 3, codes "String", codes "removeAt") ∷
    (2, 9, 4, codes "String", codes "replaceAt") ∷
    (2, 10, 4, codes "String", codes "insertAt") ∷
    (2, 11, 1, codes "String", codes "squeeze") ∷
    (2, 12, 1, codes "String", codes "trim") ∷
    (2, 13, 2, codes "String", codes "compare") ∷
    (2, 14, 1, codes "String", codes "toString") ∷
    (2, 15, 2, codes "String", codes "format") ∷
    (3, 0, 1, codes "URL", codes "isValid") ∷
    (3, 1, 1, codes "URL", codes "getScheme") ∷
    (3, 2, 1, codes "URL", codes "getHost") ∷
    (3, 3, 1, codes "URL", codes "getPort") ∷
    (3, 4, 1, codes "URL", codes "getPath") ∷
    (3, 5, 1, codes "URL", codes "getParameters") ∷
    (3, 6, 1, codes "URL", codes "getQuery") ∷
    (3, 7, 1, codes "URL", codes "getFragment") ∷
    (3, 8, 0, codes "URL", codes "getBase") ∷
    (3, 9, 0, codes "URL", codes "getReferer") ∷
    (3, 10, 2, codes "URL", codes "resolve") ∷
    (3, 11, 1, codes "URL", codes "escapeString") ∷
    (3, 12, 1, codes "URL", codes "unescapeString") ∷
    (3, 13, 2, codes "URL", codes "loadString") ∷
    (4, 0, 1, codes "WMLBrowser", codes "getVar") ∷
    (4, 1, 2, codes "WMLBrowser", codes "setVar") ∷
    (4, 2, 1, codes "WMLBrowser", codes "go") ∷
    (4, 3, 0, codes "WMLBrowser", codes "prev") ∷
    (4, 4, 0, codes "WMLBrowser", codes "newContext") ∷
    (4, 5, 0, codes "WMLBrowser", codes "getCurrentCard") ∷
    (4, 6, 0, codes "WMLBrowser", codes "refresh") ∷
    (5, 0, 2, codes "Dialogs", codes "prompt") ∷
    (5, 1, 3, codes "Dialogs", codes "confirm") ∷
    (5, 2, 1, codes "Dialogs", codes "alert") ∷
    []

-- a function by its numbers, and how many arguments it takes
abbrev pub by_number : ℕ × ℕ × ℕ × List ℕ × List ℕ → (ℕ × ℕ) × ℕ
by_number row = ((row.0, row.1), row.2)

-- a function by its names, and its numbers and how many arguments it takes
abbrev pub by_name : ℕ × ℕ × ℕ × List ℕ × List ℕ → (List ℕ × List ℕ) × (ℕ × ℕ × ℕ)
by_name row = ((row.3, row.4), (row.0, row.1, row.2))

-- whether these are the numbers of a library and of a function in it
abbrev pub is_function : ℕ → ℕ → ℕ × ℕ → Bool
is_function number function key = key.0 == number && key.1 == function

-- names are compared by their UTF-8
abbrev pub is_named : List ℕ → List ℕ → List ℕ × List ℕ → Bool
is_named name function key =
    bytes_eq key.0 (encode_utf8_all name) && bytes_eq key.1 (encode_utf8_all function)

-- how many arguments the function of these numbers takes
unfoldable pub lib_args : ℕ → ℕ → Option ℕ
lib_args number function = lookup (is_function number function) (map by_number library)

-- the numbers of the function with these names, and how many arguments it takes
unfoldable pub lib_named : List ℕ → List ℕ → Option (ℕ × ℕ × ℕ)
lib_named name function = lookup (is_named name function) (map by_name library)
