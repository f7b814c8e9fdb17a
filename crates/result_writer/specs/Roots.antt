-- The root of an answer, with what is asked of it.
use Rattle.execution_model.specs.Values.{Pairs}
use Rattle.execution_model.specs.Asked.{asked_as_sent, root_sets}
use Rattle.answer_model.specs.Types.{ObjectType}
use Rattle.answer_model.specs.Writing.{Answered, root_object}
use Rattle.result_writer.specs.Ways.{Found}

-- the root of an answer, with what is asked of it
abbrev pub root_found : Answered → Pairs → ObjectType → Found
root_found answered members type = record {
  object = root_object answered.execution type members;
  asked = asked_as_sent answered.execution type.0 (root_sets answered.execution);
}
