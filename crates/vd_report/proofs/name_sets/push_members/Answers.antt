use Rattle.std.proofs.Common.{[], ◌++◌, if◌then◌else◌, sym, ap, ◌∙◌}
use Rattle.vd_report.proofs.Members.{member_put, member_left}
use Rattle.vd_report.proofs.name_sets.push_members.Goals.{then-is_member+in_ok-push_member, else-is_member}
use Rattle.vd_report.proofs.name_sets.push_members.Goals as goal

pub loop-place-preserved : goal.loop-place-preserved
loop-place-preserved c =
    let names = c.as_slice-names.result.now in
    elim c.if-is_member.branch [
      | then-is_member+in_ok-push_member w ↦
          rw (w.text-is, w.is_first-is)
          (member_put (c.args.separator.now) names c.loop-place.place c.args.set w.index-names-place.result c.loop-place.is_first c.loop-place.text w.push_member.new.text _ c.loop-place-test.true
          (sym c.is_member.ensures ∙ w.if-is_member.true)
          (w.in_ok-push_member.ensures {u = tt} ∙ ap (λ z. c.loop-place.text ++ (if c.loop-place.is_first then z else c.args.separator.now ++ z)) (w.as_slice.ensures ∙ w.index-names-place.is)) c.loop-place.invariant)
      | else-is_member w ↦
          rw (w.text-is, w.is_first-is)
          (member_left (c.args.separator.now) names c.loop-place.place c.args.set [] c.loop-place.is_first c.loop-place.text _ c.loop-place-test.true
          (sym c.is_member.ensures ∙ w.if-is_member.false) c.loop-place.invariant)
    ]
