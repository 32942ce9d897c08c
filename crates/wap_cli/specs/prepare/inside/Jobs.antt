-- What each page is judged that a store answered. This project's own.
use Rattle.std.specs.Prelude.{◌≡◌}
use Rattle.wap_cli.specs.prepare.Reports.{Entry, IsVerdict, IsForFault}
use Rattle.wap_cli.specs.Answers.{page_of}
use Rattle.wap_cli.specs.prepare.Fetching.{Job}

-- an entry is right for a job
pub record IsRight (job : Job) (entry : Entry) : Type 0 where
  pub name : entry.0 ≡ job.0
  pub verdict : IsVerdict job.0 (page_of job.1) entry.1
  pub for_fault : IsForFault entry.1
