-- How faults of documents are printed. This project's own.
use Rattle.std.specs.Prelude.{ℕ, List, [], ◌∷◌, codes, Option, Some, None}
use Rattle.wap_devices.specs.Printing.{fault_text}
use Rattle.wap_wbxml.specs.declared.fault.DocFault.{DocFault}
use Rattle.wap_wbxml.specs.declared.fault.DocFault.TheVariants as document

-- the name of a fault of a document
abbrev pub document_name : DocFault → List ℕ
document_name document.Version = codes "Version"
document_name document.PublicId = codes "PublicId"
document_name document.Charset = codes "Charset"
document_name (document.Short at) = codes "Short"
document_name (document.Number at) = codes "Number"
document_name (document.Token at) = codes "Token"
document_name (document.Index at) = codes "Index"
document_name (document.Text at) = codes "Text"
document_name (document.Depth at) = codes "Depth"
document_name (document.Table at) = codes "Table"
document_name (document.Rest at) = codes "Rest"
document_name document.NoMemory = codes "NoMemory"

-- the place of a fault of a document, if it has one
abbrev pub document_place : DocFault → Option ℕ
document_place document.Version = None
document_place document.PublicId = None
document_place document.Charset = None
document_place (document.Short at) = Some at
document_place (document.Number at) = Some at
document_place (document.Token at) = Some at
document_place (document.Index at) = Some at
document_place (document.Text at) = Some at
document_place (document.Depth at) = Some at
document_place (document.Table at) = Some at
document_place (document.Rest at) = Some at
document_place document.NoMemory = None

-- a place, if there is one, as fields
abbrev pub place_fields : Option ℕ → List ℕ
place_fields None = []
place_fields (Some at) = at ∷ []

-- why bytes are no document
abbrev pub document_text : DocFault → List ℕ
document_text fault = fault_text (document_name fault) (place_fields (document_place fault))
