-- What a command on one page comes to, by what the calls below answered.
use Rattle.std.proofs.Common.{◌≡◌, ◌≢◌, ℕ, false, List, Some, Result, Ok, Err, refl, ap}
use Rattle.wap_devices.specs.Sinks.{SinkSeen, Puts}
use Rattle.wap_devices.specs.declared.fault.Failed.{Failed}
use Rattle.wap_keys.specs.declared.words.words.PageCommand.{PageCommand}
use Rattle.wap_pages.specs.declared.fault.PageFault.{PageFault}
use Rattle.wap_pages.specs.declared.fault.PageErr.{PageErr}
use Rattle.wap_pages.specs.declared.fault.PageErr.TheVariants as error
use Rattle.wap_pages.specs.Memory.{is_of_memory}
use Rattle.wap_cli.specs.Answers.{IsText, IsReason, Finds, Answers, refused_by, written_so}
use Rattle.wap_cli.proofs.Writing.{puts_by}

-- a value isn't an error
pub no_value : {X : Type 0} (x : X) (why : PageErr)
    → ◌≡◌ {A = Result X PageErr} (Ok x) (Err why) → ⊥
no_value x why e = cc

module _ (command : PageCommand) (bytes : List ℕ) where
  -- its text was written, or the sink failed
  pub answers_text : {A : Type 0} (before after : SinkSeen) (wrote : Result A Failed)
      (text : List ℕ) → IsText command bytes text → Puts text before after wrote
      → Answers command (Some bytes) before after (written_so wrote)
  answers_text before after wrote text is puts =
      Answers.writes (written_so wrote) text is (puts_by text before after wrote puts)

  -- there is no text
  pub answers_error : (sink : SinkSeen) (why : PageErr)
      → ((fault : PageFault) → why ≡ error.Refused fault → IsReason command bytes fault)
      → ((fault : PageFault) → why ≡ error.Refused fault → is_of_memory fault ≡ false)
      → ((text : List ℕ) → IsText command bytes text → why ≢ error.NoMemory → ⊥)
      → Answers command (Some bytes) sink sink (refused_by why)
  answers_error sink (error.Refused found) reason for_fault lacks =
      Answers.refused found (reason found refl) (for_fault found refl)
      (λ text has. lacks text has (λ same. absurd cc)) refl
  answers_error sink error.NoMemory reason for_fault lacks = Answers.no_memory refl

  -- what was found for it was written, or it is refused
  pub found_text : {A : Type 0} (before after : SinkSeen) (text : List ℕ)
      → Finds command bytes (Ok text) → (wrote : Result A Failed) → Puts text before after wrote
      → Answers command (Some bytes) before after (written_so wrote)
  found_text before after text finds wrote puts =
      answers_text before after wrote text finds.found puts

  pub found_none : (sink : SinkSeen) (why : PageErr) → Finds command bytes (Err why)
      → Answers command (Some bytes) sink sink (refused_by why)
  found_none sink why finds =
      answers_error sink why (λ fault is. finds.refused fault (ap Err is))
      (λ fault is. finds.for_fault fault (ap Err is))
      (λ text is other. no_value text why (finds.only text is other))
