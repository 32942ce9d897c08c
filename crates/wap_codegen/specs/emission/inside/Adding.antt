-- What calls add to the forms of a function. This project's own.
use Rattle.std.specs.Prelude.{◌≡◌, ◌+◌, List, ◌++◌, length}
use Rattle.wap_asm.specs.declared.form.Form.{Form}
use Rattle.wap_meaning.specs.coding.Coded.{Exits, Coded}
use Rattle.wap_codegen.specs.emission.inside.Exits.{Follows}

-- forms, and the code of a part behind them, in a loop with these exits
pub record Adds (coded : Coded) (exits : Exits) (old new : List Form) : Type 0 where
  pub forms : new ≡ old ++ coded.forms exits (length old)
  pub sized : length new ≡ length old + coded.size
  pub follows : Follows coded

-- the same of code that isn't changed by the loop around it
abbrev pub Extends : Coded → List Form → List Form → Type 0
Extends coded old new = (exits : Exits) → Adds coded exits old new
