pub mod AcceptedPrograms
