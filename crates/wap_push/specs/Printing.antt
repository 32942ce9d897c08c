-- How faults of service indications are printed. This project's own.
use Rattle.std.specs.Prelude.{ℕ, List, codes}
use Rattle.wap_wbxml.specs.Printing.{document_text}
use Rattle.wap_push.specs.declared.fault.PushFault.{PushFault}
use Rattle.wap_push.specs.declared.fault.PushFault.TheVariants as push

-- why what was pushed is no indication: a name alone, or why it is no document
abbrev pub push_text : PushFault → List ℕ
push_text (push.Document fault) = document_text fault
push_text push.Root = codes "Root"
push_text push.Child = codes "Child"
push_text push.Created = codes "Created"
push_text push.NoId = codes "NoId"
push_text push.NoMemory = codes "NoMemory"
