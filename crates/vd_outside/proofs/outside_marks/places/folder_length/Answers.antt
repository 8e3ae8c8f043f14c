use Rattle.std.proofs.Common.{◌≡◌, ◌∙◌, ◌<◌, ◌+◌, ◌-◌, ℕ, length, take, ap, sym, arith}
use Rattle.vd_outside.specs.Places.{folder_of}
use Rattle.vd_outside.proofs.Folders.{folder_ends, folder_goes_on}
use Rattle.vd_outside.proofs.outside_marks.places.folder_length.Goals as goal

pub loop-end-preserved : goal.loop-end-preserved
loop-end-preserved c =
    let more : c.loop-end.end - 1 + 1 ≡ c.loop-end.end = omega (arith, c.loop-end-test.true) in
    let within : c.loop-end.end - 1 < length c.args.name.now = omega (arith, c.loop-end-test.true, c.loop-end.invariant.0) in (
      omega (arith, c.loop-end.invariant.0),
      sym (folder_goes_on c.args.name.now (c.loop-end.end - 1) within c.if-name-end-ne47.true) ∙ ap (λ (n : ℕ). folder_of (take n c.args.name.now)) more ∙ c.loop-end.invariant.1,
    )

pub returns-else-name-end-ne47-clause-folder : goal.returns-else-name-end-ne47-clause-folder
returns-else-name-end-ne47-clause-folder c =
    let more : c.loop-end.end - 1 + 1 ≡ c.loop-end.end = omega (arith, c.loop-end-test.true) in
    let within : c.loop-end.end - 1 < length c.args.name.now = omega (arith, c.loop-end-test.true, c.loop-end.invariant.0) in
    sym (ap (λ (n : ℕ). take n c.args.name.now) more) ∙ sym (folder_ends c.args.name.now (c.loop-end.end - 1) within c.if-name-end-ne47.false) ∙ ap (λ (n : ℕ). folder_of (take n c.args.name.now)) more
    ∙ c.loop-end.invariant.1
