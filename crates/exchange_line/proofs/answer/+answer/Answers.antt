use Rattle.std.proofs.Common.{sym, ap, ◌∙◌, ◌++◌, length, Some, option_map, append-nil, arith}
use Rattle.std.proofs.lemmas.List.{at_drop_all}
use Rattle.std.proofs.lemmas.Result.{on_ok_weaker}
use Rattle.serde_json.specs.View.{view}
use Rattle.gate_machine.specs.Answers.{members_written, writings_of}
use Rattle.exchange_line.proofs.AnswerLaws.{object_at_key}
use Rattle.exchange_line.proofs.answer.+answer.Goals as goal

pub write_members-returns-clause-written : goal.write_members-returns-clause-written
write_members-returns-clause-written t c =
    c.loop-field.invariant
    ∙ at_drop_all (λ fields. option_map (λ writes. c.loop-field.out ++ writes) (members_written c.args.entity.now (writings_of fields) (view c.args.answer.now))) c.args.fields.now c.loop-field.field-index
    (omega (arith, ap length c.as_slice-field-items.ensures.pairs))
    ∙ ap Some (append-nil c.loop-field.out)

pub write_object-returns-clause-written : goal.write_object-returns-clause-written
write_object-returns-clause-written t c =
    on_ok_weaker c.write_members.result
    (object_at_key (writings_of c.args.fields.now) c.args.entity.now c.args.field.now (view c.args.answer.now) c.in-Some.key c.args.out.now c.push_write.new.out c.write_members.new.out
    (sym c.in_ok-key.ensures ∙ c.in-Some.is) (rw (← c.in_ok-copy.ensures) c.in_ok-push_write.ensures))
    c.write_members.ensures.written
