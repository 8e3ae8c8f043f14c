use Rattle.std.proofs.Common.{◌≡◌, ◌+◌, ◌<◌, ◌≤◌, false, length, take, get_or, get_or-set_same, sym, ap, ◌∙◌, subst, arith}
use Rattle.std.proofs.lemmas.List.{length-take-le}
use Rattle.vd_space.specs.Validity.{protocols, is_valid}
use Rattle.vd_space_prefix.specs.Tables.{IsPath, IsNext}
use Rattle.vd_space_prefix.proofs.Paths.{written, entered, entered_invalid}
use Rattle.vd_space_prefix.proofs.path.PathPrefixes.enter.Goals as goal
use Rattle.vd_space_prefix.proofs.path.PathPrefixes.enter.Goals.{in-Some, in_default}

pub invariant_of-self-clause-kept : goal.invariant_of-self-clause-kept
invariant_of-self-clause-kept c =
    let p = c.args.self.now in
    let problem = p.problem.now in
    let tables = p.tables.now in
    let room = c.set.new.self in
    let size = p.kept.room in
    let deep = p.kept.depth in
    let within : p.depth ≤ length p.room = omega (arith, size, deep) in
    let taken = length-take-le p.depth p.room within in
    let low : p.depth < length problem.slots = omega (arith, taken, c.requires.room) in
    let low_room : p.depth < length p.room = omega (arith, size, low) in
    let path : IsPath problem tables room p.sums p.depth p.valid = subst (λ r. IsPath problem tables r p.sums p.depth p.valid) (sym c.set.ensures) (written problem tables p.room p.sums p.depth p.valid c.args.choice p.kept) in
    let last : get_or room p.depth 0 ≡ c.args.choice = ap (λ r. get_or r p.depth 0) c.set.ensures ∙ get_or-set_same p.room p.depth c.args.choice 0 low_room in
    let listed : get_or room p.depth 0 < length (protocols problem) = subst (λ n. n < length (protocols problem)) (sym last) c.requires.choice in
    elim c.match-next.branch [
      | in-Some w ↦
          let next : IsNext problem tables (take (p.depth + 1) room) w.in-Some.sums = subst (λ r. IsNext problem tables (take (p.depth + 1) r) w.in-Some.sums) c.as_slice-2.ensures (w.in-Some.ensures {u = tt}) in
          let after = entered problem tables room p.sums p.depth p.valid path w.in-Some.sums low listed next in
          rw w.self-is (subst (λ s. IsPath problem tables room s (p.depth + 1) (p.depth + 2)) (sym w.set-in-Some.ensures) after)
      | in_default w ↦
          let refused : is_valid problem (take (p.depth + 1) room) ≡ false = subst (λ r. is_valid problem (take (p.depth + 1) r) ≡ false) c.as_slice-2.ensures w.in_default.ensures in
          rw w.self-is (entered_invalid problem tables room p.sums p.depth p.valid path low listed refused)
    ]
