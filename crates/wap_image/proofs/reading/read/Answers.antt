use Rattle.std.proofs.Common.{subst, Result}
use Rattle.wap_base.specs.Outcome.{Meets}
use Rattle.wap_image.specs.declared.context_parts.fault.ImageFault.{ImageFault}
use Rattle.wap_image.specs.declared.context_parts.fault.ImageFault.TheVariants.{NoMemory}
use Rattle.wap_image.specs.Images.{Saved}
use Rattle.wap_image.proofs.ImageLaws.{found_is, refused_is, image_again, image_fails}
use Rattle.wap_image.proofs.RulesLaws.{kept_is}
use Rattle.wap_image.proofs.reading.read.Goals as goal

pub returns-clause-found : goal.returns-clause-found
returns-clause-found c = found_is c.args.bytes.now c.read_image.result c.read_image.ensures

pub returns-clause-only : goal.returns-clause-only
returns-clause-only c =
    λ saved is.
    subst (λ (r : Result Saved ImageFault). Meets NoMemory (λ s. s) c.read_image.result r)
    (image_again c.args.bytes.now saved is) c.read_image.ensures

pub returns-clause-refused : goal.returns-clause-refused
returns-clause-refused c = refused_is c.args.bytes.now c.read_image.result c.read_image.ensures

pub returns-clause-first : goal.returns-clause-first
returns-clause-first c =
    λ fault is.
    subst (λ (r : Result Saved ImageFault). Meets NoMemory (λ s. s) c.read_image.result r)
    (image_fails c.args.bytes.now fault is) c.read_image.ensures

pub returns-clause-kept : goal.returns-clause-kept
returns-clause-kept c =
    kept_is c.args.bytes.now c.read_image.result
    (found_is c.args.bytes.now c.read_image.result c.read_image.ensures)
