pub mod CasesLaws
