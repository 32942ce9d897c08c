pub mod PageUrls
