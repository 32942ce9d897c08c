-- A text that a user enters, and an option that a user chooses (WAP-191, sections 11.6.2 and
-- 11.6.3).
use Rattle.std.specs.Prelude.{ℕ, if◌then◌else◌, List, Option, Some, None, Result, Ok, Err}
use Rattle.wap_tokens.specs.declared.markup.deck.Node.{Node}
use Rattle.wap_tokens.specs.declared.markup.name.Tag.TheVariants as tags
use Rattle.wap_vars.specs.declared.fault.VarFault.{VarFault}
use Rattle.wap_vars.specs.declared.fault.VarFault.TheVariants as faults
use Rattle.wap_vars.specs.Variables.{Variables}
use Rattle.wap_vars.specs.Setting.{set_in}
use Rattle.wap_cardrules.specs.declared.answers.Entered.{Entered}
use Rattle.wap_cardrules.specs.declared.answers.Entered.TheVariants as entered
use Rattle.wap_cardrules.specs.declared.answers.Chosen.{Chosen}
use Rattle.wap_cardrules.specs.declared.answers.Chosen.TheVariants as chosen
use Rattle.wap_cardrules.specs.Fields.{field_with, numbered}
use Rattle.wap_cardrules.specs.Inputs.{input_variable, takes}
use Rattle.wap_cardrules.specs.Selects.{options_of, choice_of, choice_with}
use Rattle.wap_cardrules.specs.Setting.{Set, set_choice}
use Rattle.wap_cardrules.specs.Events.{onpick}

-- ---- texts

-- the variables after a text was entered, and what is answered
pub record TextEntered : Type 0 where
  pub vars : Variables
  pub answer : Entered

-- why a text is not set
abbrev pub entered_for : VarFault → Entered
entered_for faults.Full = entered.Full
entered_for _ = entered.Refused

-- what is answered where a variable was set, or refused its text
abbrev pub entered_by : Variables → Result Variables VarFault → TextEntered
entered_by vars (Ok more) = record { vars = more; answer = entered.Set }
entered_by vars (Err fault) = record { vars = vars; answer = entered_for fault }

-- a text for an input, if there is one: it is set where the input takes it
abbrev pub enter_in : Variables → List ℕ → Option Node → TextEntered
enter_in vars text None = record { vars = vars; answer = entered.NoInput }
enter_in vars text (Some input) =
    if takes vars input text then entered_by vars (set_in vars (input_variable input) text)
    else record { vars = vars; answer = entered.Refused }

-- a text for the field of a number
abbrev pub enter_text : Variables → Node → ℕ → List ℕ → TextEntered
enter_text vars card n text = enter_in vars text (field_with tags.Input card n)

-- ---- options

-- the variables after an option was chosen, and what is answered
pub record OptionChosen : Type 0 where
  pub vars : Variables
  pub answer : Chosen

-- there is no such option
abbrev pub none_chosen : Variables → OptionChosen
none_chosen vars = record { vars = vars; answer = chosen.NoOption }

-- the sets, and then the task of onpick, filled from the variables that the sets leave
abbrev pub after_sets : Set → Node → OptionChosen
after_sets set option =
    record { vars = set.vars; answer = chosen.Set set.refused (onpick set.vars option) }

-- an option of a select, if there is one: what the select says with it is set, and its task follows
abbrev pub choose_option : Variables → Node → ℕ → Option Node → OptionChosen
choose_option vars select m None = none_chosen vars
choose_option vars select m (Some option) =
    after_sets (set_choice vars select (choice_with select (choice_of vars select) m)) option

-- the option of a number, in a select, if there is one
abbrev pub choose_in : Variables → ℕ → Option Node → OptionChosen
choose_in vars m None = none_chosen vars
choose_in vars m (Some select) = choose_option vars select m (numbered (options_of select) m)

-- in the field of a number, the option of a number: in a multiple select chosen or no longer, else
-- chosen alone
abbrev pub choose : Variables → Node → ℕ → ℕ → OptionChosen
choose vars card n m = choose_in vars m (field_with tags.Select card n)
