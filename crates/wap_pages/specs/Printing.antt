-- How a fault of a page is printed: its name, and its fields in order. This project's own.
use Rattle.std.specs.Prelude.{ℕ, List, [], ◌∷◌, ◌++◌, codes, decimal}
use Rattle.std.specs.List.{flat_map}
use Rattle.wap_base.specs.Ascii.{space, slash}
use Rattle.wap_devices.specs.Printing.{fault_text}
use Rattle.wap_wbxml.specs.Printing.{document_text}
use Rattle.wap_image.specs.Printing.{image_text, save_text}
use Rattle.wap_unit.specs.declared.fault.UnitFault.{UnitFault}
use Rattle.wap_unit.specs.declared.fault.UnitFault.TheVariants as unit
use Rattle.wap_verify.specs.declared.fault.VerifyFault.{VerifyFault}
use Rattle.wap_verify.specs.declared.fault.VerifyFault.TheVariants as verify
use Rattle.wap_deckcheck.specs.declared.fault.DeckFault.{DeckFault}
use Rattle.wap_deckcheck.specs.declared.fault.DeckFault.TheVariants as deck
use Rattle.wap_lex.specs.declared.fault.LexFault.{LexFault}
use Rattle.wap_lex.specs.declared.fault.LexFault.TheVariants as lex
use Rattle.wap_grammar.specs.declared.fault.ParseFault.{ParseFault}
use Rattle.wap_grammar.specs.declared.fault.ParseFault.TheVariants as parse
use Rattle.wap_grammar.specs.declared.program.program.Span.{Span}
use Rattle.wap_scope.specs.declared.fault.ScopeFault.{ScopeFault}
use Rattle.wap_scope.specs.declared.fault.ScopeFault.TheVariants as scope
use Rattle.wap_codegen.specs.declared.fault.CompileFault.{CompileFault}
use Rattle.wap_codegen.specs.declared.fault.CompileFault.TheVariants as compile
use Rattle.wap_pages.specs.declared.fault.PageFault.{PageFault}
use Rattle.wap_pages.specs.declared.fault.PageFault.TheVariants as page

-- the numbers of a path, with strokes between them
abbrev pub step_text : ℕ → List ℕ
step_text number = slash ∷ decimal number

abbrev pub path_text : List ℕ → List ℕ
path_text [] = []
path_text (number ∷ numbers) = decimal number ++ flat_map step_text numbers

-- a name and a path, after a space
abbrev pub at_path : List ℕ → List ℕ → List ℕ
at_path name path = name ++ space ∷ path_text path

abbrev pub deck_text : DeckFault → List ℕ
deck_text (deck.Child path) = at_path (codes "Child") path
deck_text (deck.Attr path) = at_path (codes "Attr") path
deck_text (deck.Missing path) = at_path (codes "Missing") path
deck_text (deck.Value path) = at_path (codes "Value") path
deck_text (deck.DuplicateId path) = at_path (codes "DuplicateId") path
deck_text deck.NoCard = fault_text (codes "NoCard") []
deck_text deck.NoMemory = fault_text (codes "NoMemory") []

abbrev pub unit_text : UnitFault → List ℕ
unit_text (unit.Version at) = fault_text (codes "Version") (at ∷ [])
unit_text (unit.Short at) = fault_text (codes "Short") (at ∷ [])
unit_text (unit.Number at) = fault_text (codes "Number") (at ∷ [])
unit_text (unit.Size at) = fault_text (codes "Size") (at ∷ [])
unit_text (unit.ConstantKind at) = fault_text (codes "ConstantKind") (at ∷ [])
unit_text (unit.PragmaKind at) = fault_text (codes "PragmaKind") (at ∷ [])
unit_text (unit.Text at) = fault_text (codes "Text") (at ∷ [])
unit_text (unit.Charset at) = fault_text (codes "Charset") (at ∷ [])
unit_text (unit.NoFunction at) = fault_text (codes "NoFunction") (at ∷ [])
unit_text (unit.NameIndex at) = fault_text (codes "NameIndex") (at ∷ [])
unit_text unit.NoMemory = fault_text (codes "NoMemory") []

abbrev pub verify_text : VerifyFault → List ℕ
verify_text (verify.Pragma index) = fault_text (codes "Pragma") (index ∷ [])
verify_text (verify.Opcode function at) = fault_text (codes "Opcode") (function ∷ at ∷ [])
verify_text (verify.Operand function at) = fault_text (codes "Operand") (function ∷ at ∷ [])
verify_text (verify.Variable function at) = fault_text (codes "Variable") (function ∷ at ∷ [])
verify_text (verify.Constant function at) = fault_text (codes "Constant") (function ∷ at ∷ [])
verify_text (verify.Function function at) = fault_text (codes "Function") (function ∷ at ∷ [])
verify_text (verify.Library function at) = fault_text (codes "Library") (function ∷ at ∷ [])
verify_text (verify.LoneShort function at) = fault_text (codes "LoneShort") (function ∷ at ∷ [])
verify_text (verify.Target function at) = fault_text (codes "Target") (function ∷ at ∷ [])
verify_text (verify.Underflow function at) = fault_text (codes "Underflow") (function ∷ at ∷ [])
verify_text (verify.Depths function at found other) =
    fault_text (codes "Depths") (function ∷ at ∷ found ∷ other ∷ [])
verify_text verify.NoMemory = fault_text (codes "NoMemory") []

abbrev pub lex_text : LexFault → List ℕ
lex_text lex.NotText = fault_text (codes "NotText") []
lex_text (lex.BadChar at) = fault_text (codes "BadChar") (at ∷ [])
lex_text (lex.OpenString at) = fault_text (codes "OpenString") (at ∷ [])
lex_text (lex.OpenComment at) = fault_text (codes "OpenComment") (at ∷ [])
lex_text (lex.BadEscape at) = fault_text (codes "BadEscape") (at ∷ [])
lex_text (lex.IntRange at) = fault_text (codes "IntRange") (at ∷ [])
lex_text lex.NoMemory = fault_text (codes "NoMemory") []

abbrev pub parse_text : ParseFault → List ℕ
parse_text (parse.Syntax at) = fault_text (codes "Syntax") (at ∷ [])
parse_text (parse.Nested at) = fault_text (codes "Nested") (at ∷ [])
parse_text parse.NoMemory = fault_text (codes "NoMemory") []

-- a name, and where a part of a source begins and ends
abbrev pub span_text : List ℕ → Span → List ℕ
span_text name span = fault_text name (span.from ∷ span.to ∷ [])

abbrev pub scope_text : ScopeFault → List ℕ
scope_text (scope.NoVariable span) = span_text (codes "NoVariable") span
scope_text (scope.TwoVariables span) = span_text (codes "TwoVariables") span
scope_text (scope.NoFunction span) = span_text (codes "NoFunction") span
scope_text (scope.TwoFunctions span) = span_text (codes "TwoFunctions") span
scope_text (scope.Arguments span) = span_text (codes "Arguments") span
scope_text (scope.NoUnit span) = span_text (codes "NoUnit") span
scope_text (scope.TwoUnits span) = span_text (codes "TwoUnits") span
scope_text (scope.NoLibrary span) = span_text (codes "NoLibrary") span
scope_text (scope.LoneBreak span) = span_text (codes "LoneBreak") span
scope_text (scope.TwoAccess span) = span_text (codes "TwoAccess") span
scope_text (scope.TooManyLocals span) = span_text (codes "TooManyLocals") span
scope_text (scope.TooManyFunctions span) = span_text (codes "TooManyFunctions") span
scope_text scope.NoMemory = fault_text (codes "NoMemory") []

abbrev pub compile_text : CompileFault → List ℕ
compile_text (compile.Lex fault) = lex_text fault
compile_text (compile.Parse fault) = parse_text fault
compile_text (compile.Scope fault) = scope_text fault
compile_text (compile.TooManyConstants count) =
    fault_text (codes "TooManyConstants") (count ∷ [])
compile_text (compile.CodeTooLong function wide) =
    fault_text (codes "CodeTooLong") (function ∷ wide ∷ [])
compile_text compile.NoMemory = fault_text (codes "NoMemory") []

-- the innermost fault
abbrev pub page_text : PageFault → List ℕ
page_text page.Missing = fault_text (codes "Missing") []
page_text (page.Document fault) = document_text fault
page_text (page.Deck fault) = deck_text fault
page_text (page.Source fault) = compile_text fault
page_text (page.Unit fault) = unit_text fault
page_text (page.Verify fault) = verify_text fault
page_text page.NotText = fault_text (codes "NotText") []
page_text (page.Image fault) = image_text fault
page_text (page.Save fault) = save_text fault
page_text page.NotDeck = fault_text (codes "NotDeck") []
