pub mod DirectoryLemmas
pub mod FilesLemmas
pub mod LoadFilesLemmas
