use Rattle.std.proofs.Common.{◌++◌, ap, ◌∙◌, codes, option_map}
use Rattle.gql_value.specs.Text.{quoted}
use Rattle.http_model.specs.Texts.{name_text}
use Rattle.fetch_link.proofs.Pieces.{seven}
use Rattle.fetch_link.proofs.request.body_text.Goals as goal

pub returns : goal.returns
returns c =
    let query = codes "{\"query\":" in
    let document = quoted c.args.document.now in
    let name_of = codes ",\"operationName\":" in
    let name = name_text (option_map (λ n. n.now) c.args.operation) in
    let variables_of = codes ",\"variables\":" in
    let variables = c.args.variables.now in
    let end = codes "}" in
    let first = c.in_ok-append.ensures.ok ∙ ap (λ t. t ++ query) c.new-body.ensures in
    let second = c.in_ok-write_quoted.ensures.ok ∙ ap (λ t. t ++ document) first in
    let third = c.in_ok-append-2.ensures.ok ∙ ap (λ t. t ++ name_of) second in
    let fourth = c.in_ok-append_name.ensures ∙ ap (λ t. t ++ name) third in
    let fifth = c.in_ok-append-3.ensures.ok ∙ ap (λ t. t ++ variables_of) fourth in
    let given = c.in_ok-append-4.ensures.ok ∙ ap (λ v. c.append-3.new.self ++ v) c.as_bytes.ensures.bytes in
    let sixth = given ∙ ap (λ t. t ++ variables) fifth in
    c.in_ok-append-5.ensures.ok ∙ ap (λ t. t ++ end) sixth ∙ seven query document name_of name variables_of variables end
