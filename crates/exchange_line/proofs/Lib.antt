mod AnswerLaws
mod DispatchLaws
mod HistoryLaws
mod Pieces
