-- Keys that a session ignores without a look at its card or its inbox. This project's own.
use Rattle.std.specs.Prelude.{Bool, true, false, not, ◌&&◌, is_some, is_none}
use Rattle.wap_base.specs.declared.key.Key.{Key}
use Rattle.wap_base.specs.declared.key.Key.TheVariants as key
use Rattle.wap_context.specs.Browsers.{place_held}
use Rattle.wap_session.specs.Feeding.{State}

-- whether a key fits nothing outside a dialog, whatever a card or an inbox has: those of dialogs,
-- and without a card those that are for one
abbrev pub fits_nothing : Bool → Key → Bool
fits_nothing has_card key.Ok = true
fits_nothing has_card key.Cancel = true
fits_nothing has_card (key.Answer text) = true
fits_nothing has_card key.Stop = true
fits_nothing has_card (key.Open url) = false
fits_nothing has_card key.Vars = false
fits_nothing has_card (key.Push bytes) = false
fits_nothing has_card key.Inbox = false
fits_nothing has_card (key.Follow n) = false
fits_nothing has_card one = not has_card

-- so it is ignored outside a dialog, until a key fails
abbrev pub ignores : State → Key → Bool
ignores state key =
    (is_none state.waiting && not state.is_over)
    && fits_nothing (is_some (place_held state.browser)) key
