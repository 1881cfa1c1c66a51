mod CompactText
mod ContentsAgain
mod JsonAgain
pub mod LineLemmas
mod OneLine
mod PredicatesAgain
mod ReadBack
pub mod TypeParts
mod TypesAgain
pub mod WrittenLemmas
