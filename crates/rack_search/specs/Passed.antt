-- What the crates above take of the crates below, so that each has to list few.
pub use Rattle.rack_claims.specs.Cut.{JudgedCall}
unfoldable pub use Rattle.rack_claims.specs.Cut.{answer_made, answers_made, has_call, judged_calls, later_answers, later_of_each, next_answer, next_of_each, of_each, own_call, own_calls}
pub use Rattle.rack_claims.specs.Demand3.{own_of, waits_for}
unfoldable pub use Rattle.rack_claims.specs.Demand3.{stand_in}
pub use Rattle.rack_claims.specs.ItsTags.{AnswersOfTags, EveryRackList, SameNumber, SameSize, TagsAsAlone, answers_alone}
unfoldable pub use Rattle.rack_claims.specs.ItsTags.{rack_frames_fit}
