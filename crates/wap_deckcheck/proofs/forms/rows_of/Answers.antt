use Rattle.std.proofs.Common.{ap}
use Rattle.wap_deckcheck.specs.Forms.{forms_of}
use Rattle.wap_deckcheck.proofs.FormsOf.{other_tags}
use Rattle.wap_deckcheck.proofs.forms.rows_of.Goals as goal

pub returns-in-Go-clause-rows : goal.returns-in-Go-clause-rows
returns-in-Go-clause-rows c = ap forms_of c.in-Go.is

pub returns-in-P-clause-rows : goal.returns-in-P-clause-rows
returns-in-P-clause-rows c = ap forms_of c.in-P.is

pub returns-in-Card-clause-rows : goal.returns-in-Card-clause-rows
returns-in-Card-clause-rows c = ap forms_of c.in-Card.is

pub returns-in-Do-clause-rows : goal.returns-in-Do-clause-rows
returns-in-Do-clause-rows c = ap forms_of c.in-Do.is

pub returns-in-Onevent-clause-rows : goal.returns-in-Onevent-clause-rows
returns-in-Onevent-clause-rows c = ap forms_of c.in-Onevent.is

pub returns-in-Input-clause-rows : goal.returns-in-Input-clause-rows
returns-in-Input-clause-rows c = ap forms_of c.in-Input.is

pub returns-in-Timer-clause-rows : goal.returns-in-Timer-clause-rows
returns-in-Timer-clause-rows c = ap forms_of c.in-Timer.is

pub returns-in-Select-clause-rows : goal.returns-in-Select-clause-rows
returns-in-Select-clause-rows c = ap forms_of c.in-Select.is

pub returns-in_default-clause-rows : goal.returns-in_default-clause-rows
returns-in_default-clause-rows c =
    other_tags c.args.tag c.in_default.not-Go c.in_default.not-P c.in_default.not-Card
    c.in_default.not-Do c.in_default.not-Onevent c.in_default.not-Input c.in_default.not-Timer
    c.in_default.not-Select
