use Rattle.std.proofs.Common.{◌≡◌, ◌<◌, ◌≤◌, length, true, false, bytes_eq, Some, sym, ap, ◌∙◌, arith}
use Rattle.vd_base.proofs.EntriesByName.{found_here, changed_here, not_here, nowhere, unchanged}
use Rattle.vd_base.proofs.sight.replace_entry.Goals as goal

pub returns-then-eq : goal.returns-then-eq
returns-then-eq g c =
    let es = c.loop-i.entries.items in
    let lt : c.loop-i.i < length es = rw c.loop-i.invariant.1 (omega (arith, c.loop-i-test.true, c.len-i-end.ensures)) in
    let eq : bytes_eq c.index.result.now.0 c.args.name.now ≡ true = ap (λ z. bytes_eq z c.args.name.now) (sym c.as_slice.ensures) ∙ sym c.eq.ensures ∙ c.if-eq.true in
    rw (← c.loop-i.invariant.1) (record {
      former = ap (λ z. Some z) c.replace.ensures.value ∙ found_here es c.loop-i.i c.index.result.now c.index_mut.result.now c.args.name.now lt
          c.loop-i.invariant.0 c.index.ensures c.index_mut.ensures.value eq;
      names = changed_here es c.loop-i.i c.index.result.now c.index_mut.result.now c.replace.new.dest (λ former. c.args.is) c.args.name.now lt
          c.loop-i.invariant.0 c.index.ensures c.index_mut.ensures.value eq c.replace.ensures.after;
    })

pub loop-i-preserved : goal.loop-i-preserved
loop-i-preserved g c =
    let es = c.loop-i.entries.items in
    let lt : c.loop-i.i < length es = rw c.loop-i.invariant.1 (omega (arith, c.loop-i-test.true, c.len-i-end.ensures)) in
    let eq : bytes_eq c.index.result.now.0 c.args.name.now ≡ false = ap (λ z. bytes_eq z c.args.name.now) (sym c.as_slice.ensures) ∙ sym c.eq.ensures ∙ c.if-eq.false in
    (not_here es c.loop-i.i c.index.result.now c.args.name.now lt c.loop-i.invariant.0 c.index.ensures eq, c.loop-i.invariant.1)

pub returns : goal.returns
returns g c =
    let es = c.loop-i.entries.items in
    let le : length es ≤ c.loop-i.i = rw c.loop-i.invariant.1 (omega (arith, c.loop-i-test.false, c.len-i-end.ensures)) in
    rw (← c.loop-i.invariant.1) (record {
      former = sym (nowhere es c.loop-i.i c.args.name.now le c.loop-i.invariant.0);
      names = unchanged es c.loop-i.i (λ former. c.args.is) c.args.name.now le c.loop-i.invariant.0;
    })
