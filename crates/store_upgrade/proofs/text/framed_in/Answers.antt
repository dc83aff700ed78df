use Rattle.std.proofs.Common.{arith}
use Rattle.store_upgrade.proofs.Framing.{colon_at, framed_is, room}
use Rattle.store_upgrade.proofs.text.framed_in.Goals as goal
use Rattle.store_upgrade.proofs.text.framed_in.Goals.{then-start-bytes-via-else-start-bytes+then-behind-bytes, then-start-bytes-via-then-start-bytes}

pub returns-then-start-bytes : goal.returns-then-start-bytes
returns-then-start-bytes c text tail is long more few =
    let at = colon_at c.args.bytes.now text tail c.colon_in-start.result is more few c.colon_in-start.ensures.within c.colon_in-start.ensures.before c.colon_in-start.ensures.found in
    let enough = room c.args.bytes.now text tail c.colon_in-start.result c.args.behind is long at in
    absurd (elim c.then-start-bytes.branch [
      | then-start-bytes-via-then-start-bytes w ↦ let past = w.if-start-bytes.true in omega (arith, enough, past)
      | then-start-bytes-via-else-start-bytes+then-behind-bytes w ↦ let past = w.if-behind-bytes.true in let ok = w.if-start-bytes.false in omega (arith, enough, past, ok)
    ])

pub returns : goal.returns
returns c text tail is long more few =
    let at = colon_at c.args.bytes.now text tail c.colon_in-start.result is more few c.colon_in-start.ensures.within c.colon_in-start.ensures.before c.colon_in-start.ensures.found in
    framed_is c.args.bytes.now text tail c.colon_in-start.result c.args.behind is long at
