use Rattle.std.proofs.Common.{◌≡◌, subst}
use Rattle.std.specs.Prelude.{IfOk}
use Rattle.wap_base.specs.Outcome.{Meets}
use Rattle.wap_image.specs.declared.context_parts.parts.ContextParts.{ContextParts}
use Rattle.wap_image.specs.declared.context_parts.fault.SaveFault.TheVariants.{NoMemory}
use Rattle.wap_image.specs.Images.{IsImage}
use Rattle.wap_image.specs.Items.{is_drawn}
use Rattle.wap_state.specs.Saved.{saved_world, IsAtRest}
use Rattle.wap_cli.specs.saving.Saving.{image_of}
use Rattle.wap_cli.proofs.SavingLemmas.Images.{image_meets, whole_if}
use Rattle.wap_cli.proofs.saving.save.Goals as goal

pub returns-clause-image : goal.returns-clause-image
returns-clause-image c =
    subst (λ (parts : ContextParts). Meets NoMemory (λ bytes. bytes) c.save_parts.result
    (image_of parts c.args.budget)) c.in_ok-parts.ensures.parts
    (image_meets c.in_ok-parts.parts c.args.budget c.save_parts.result
    c.save_parts.ensures.spelled c.save_parts.ensures.drawn c.save_parts.ensures.card)

pub returns-clause-read : goal.returns-clause-read
returns-clause-read c =
    subst (λ (parts : ContextParts). IfOk c.save_parts.result
    (λ bytes. IsImage bytes (parts, c.args.budget))) c.in_ok-parts.ensures.parts
    c.save_parts.ensures.read

pub returns-clause-whole : goal.returns-clause-whole
returns-clause-whole c =
    subst (λ (parts : ContextParts). IfOk c.save_parts.result
    (λ bytes. IsAtRest c.args.context.now.world
    → saved_world parts ≡ record c.args.context.now.world { budget = 0; turns = 0 }))
    c.in_ok-parts.ensures.parts
    (whole_if (is_drawn c.in_ok-parts.parts.drawn) c.save_parts.result
    (IsAtRest c.args.context.now.world)
    (saved_world c.in_ok-parts.parts ≡ record c.args.context.now.world { budget = 0; turns = 0 })
    c.save_parts.ensures.drawn c.in_ok-parts.ensures.whole)
