use Rattle.std.proofs.Common.{◌∙◌, sym, arith}
use Rattle.gql_tokens.proofs.PlaceLaws.{IsBehind-further}
use Rattle.gql_tokens.proofs.TokenLaws.{ignored}
use Rattle.gql_tokens.proofs.heads.skip_ignored.Goals as goal

pub ignored-preserved : goal.ignored-preserved
ignored-preserved c =
    let place = c.ignored.place in
    let rest = c.ignored.rest.now in
    let len = c.ignored.len in
    record {
      tokens = rw (c.after-place.ensures.value, c.split_at.ensures.back) (sym (ignored len place rest c.ignored.invariant.len (omega arith)) ∙ c.ignored.invariant.tokens);
      len = c.ignored_len-len-in-ignored.ensures.value;
      within = c.ignored_len-len-in-ignored.ensures.within;
      room = rw c.split_at.ensures.back c.after-place.ensures.room;
      behind = rw (c.after-place.ensures.value, c.split_at.ensures.back) (IsBehind-further c.args.start c.args.text.now place rest len c.ignored.invariant.behind c.ignored.invariant.within);
    }
