pub mod DocumentParts
