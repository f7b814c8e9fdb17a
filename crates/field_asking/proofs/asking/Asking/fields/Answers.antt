use Rattle.std.proofs.Common.{◌≡◌, map}
use Rattle.std.proofs.lemmas.Result.{IfOk-weaker}
use Rattle.execution_model.specs.Asked.{asked_of}
use Rattle.field_asking.specs.Asking.{HasOwnKeys, executed, asked_field}
use Rattle.field_asking.proofs.KeyLaws.{own_keys}
use Rattle.field_asking.proofs.asking.Asking.fields.Goals as goal

pub returns-clause-keys : goal.returns-clause-keys
returns-clause-keys c =
    IfOk-weaker c.fields_of_groups.result
    (λ fields. map asked_field fields.items ≡ map (asked_of (executed c.args.self.now) c.args.object) c.in_ok-groups.groups)
    (λ fields. HasOwnKeys fields.items)
    (λ fields are. own_keys (executed c.args.self.now) c.args.object c.in_ok-groups.groups fields.items are c.in_ok-groups.ensures.keys)
    c.fields_of_groups.ensures
