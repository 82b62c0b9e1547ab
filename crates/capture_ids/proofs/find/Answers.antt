use Rattle.capture_ids.specs.Ids.{look_from}
use Rattle.capture_ids.proofs.Headers.{fold_stops, fold_goes, look_none, look_one}
use Rattle.capture_ids.proofs.find.Goals as goal

pub loop-head-preserved : goal.loop-head-preserved
loop-head-preserved c =
    let x = c.args.x.now in
    let l = c.loop-head in
    fold_goes (look_from x) (look_none x) (look_one x) c.args.s.now l.known l.h l.at _ l.invariant _ _ c.in-Next.ensures _ c.noted-known.ensures

pub returns : goal.returns
returns c =
    let x = c.args.x.now in
    let l = c.loop-head in
    fold_stops (look_from x) (look_none x) (look_one x) c.args.s.now l.known l.h l.at _ l.invariant _ c.in_default.ensures
