-- The functions of the libraries that need no browser, by their names (WAP-194), and what calls by
-- their numbers go to.
use Rattle.std.specs.Prelude.{ℕ, List, [], ◌∷◌, Option, Some, None, codes}
use Rattle.wap_libs.specs.declared.function.Function.{Function}
use Rattle.wap_libs.specs.declared.function.Function.TheVariants.{Lang, Float, String, Url}
use Rattle.wap_libs.specs.declared.function.LangFunction.TheVariants as lang
use Rattle.wap_libs.specs.declared.function.FloatFunction.TheVariants as float
use Rattle.wap_libs.specs.declared.function.StringFunction.TheVariants as string
use Rattle.wap_libs.specs.declared.function.UrlFunction.TheVariants as url
use Rattle.wap_libs.specs.Libraries.{function_at}

-- the name of a library, the name of a function in it, and the function
abbrev pub Named : Type 0
Named = List ℕ × List ℕ × Function

-- the functions that need no browser, in the order of their numbers
abbrev pub functions : List Named
functions =
    (codes "Lang", codes "abs", Lang lang.Abs) ∷
    (codes "Lang", codes "min", Lang lang.Min) ∷
    (codes "Lang", codes "max", Lang lang.Max) ∷
    (codes "Lang", codes "parseInt", Lang lang.ParseInt) ∷
    (codes "Lang", codes "parseFloat", Lang lang.ParseFloat) ∷
    (codes "Lang", codes "isInt", Lang lang.IsInt) ∷
    (codes "Lang", codes "isFloat", Lang lang.IsFloat) ∷
    (codes "Lang", codes "maxInt", Lang lang.MaxInt) ∷
    (codes "Lang", codes "minInt", Lang lang.MinInt) ∷
    (codes "Lang", codes "float", Lang lang.Float) ∷
    (codes "Lang", codes "exit", Lang lang.Exit) ∷
    (codes "Lang", codes "abort", Lang lang.Abort) ∷
    (codes "Lang", codes "random", Lang lang.Random) ∷
    (codes "Lang", codes "seed", Lang lang.Seed) ∷
    (codes "Lang", codes "characterSet", Lang lang.CharacterSet) ∷
    (codes "Float", codes "int", Float float.Int) ∷
    (codes "Float", codes "floor", Float float.Floor) ∷
    (codes "Float", codes "ceil", Float float.Ceil) ∷
    (codes "Float", codes "pow", Float float.Pow) ∷
    (codes "Float", codes "round", Float float.Round) ∷
    (codes "Float", codes "sqrt", Float float.Sqrt) ∷
    (codes "Float", codes "maxFloat", Float float.MaxFloat) ∷
    (codes "Float", codes "minFloat", Float float.MinFloat) ∷
    (codes "String", codes "length", String string.Length) ∷
    (codes "String", codes "isEmpty", String string.IsEmpty) ∷
    (codes "String", codes "charAt", String string.CharAt) ∷
    (codes "String", codes "subString", String string.SubString) ∷
    (codes "String", codes "find", String string.Find) ∷
    (codes "String", codes "replace", String string.Replace) ∷
    (codes "String", codes "elements", String string.Elements) ∷
    (codes "String", codes "elementAt", String string.ElementAt) ∷
    (codes "String", codes "removeAt", String string.RemoveAt) ∷
    (codes "String", codes "replaceAt", String string.ReplaceAt) ∷
    (codes "String", codes "insertAt", String string.InsertAt) ∷
    (codes "String", codes "squeeze", String string.Squeeze) ∷
    (codes "String", codes "trim", String string.Trim) ∷
    (codes "String", codes "compare", String string.Compare) ∷
    (codes "String", codes "toString", String string.ToString) ∷
    (codes "String", codes "format", String string.Format) ∷
    (codes "URL", codes "isValid", Url url.IsValid) ∷
    (codes "URL", codes "getScheme", Url url.GetScheme) ∷
    (codes "URL", codes "getHost", Url url.GetHost) ∷
    (codes "URL", codes "getPort", Url url.GetPort) ∷
    (codes "URL", codes "getPath", Url url.GetPath) ∷
    (codes "URL", codes "getParameters", Url url.GetParameters) ∷
    (codes "URL", codes "getQuery", Url url.GetQuery) ∷
    (codes "URL", codes "getFragment", Url url.GetFragment) ∷
    (codes "URL", codes "resolve", Url url.Resolve) ∷
    (codes "URL", codes "escapeString", Url url.EscapeString) ∷
    (codes "URL", codes "unescapeString", Url url.UnescapeString) ∷
    []

-- both names and the function, where there is one
abbrev pub named : List ℕ → List ℕ → Option Function → List Named
named library name None = []
named library name (Some function) = (library, name, function) ∷ []

-- where a call by the numbers of this row of the table goes, if that needs no browser
abbrev pub called : ℕ × ℕ × ℕ × List ℕ × List ℕ → List Named
called row = named row.3 row.4 (function_at row.0 row.1)
