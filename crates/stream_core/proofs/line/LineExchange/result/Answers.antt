use Rattle.stream_core.proofs.Lines.{answers_through}
use Rattle.stream_core.proofs.line.LineExchange.result.Goals as goal

pub returns-clause-made : goal.returns-clause-made
returns-clause-made g c = answers_through g.A.Exchange.answers g.B.Exchange.answers g.B.Exchange.operates c.args.self.now.first c.args.self.now.second c.args.res c.result.new.self c.new-between.result.items c.result.new.out.items c.new-between.ensures.items c.in_ok-result.ensures.made c.pass_up.new.above c.pass_up.new.below c.args.out.now.items c.pass_up.new.out.items c.in_ok-pass_up.ensures.made
