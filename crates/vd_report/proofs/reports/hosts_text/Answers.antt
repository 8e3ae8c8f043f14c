use Rattle.std.proofs.Common.{◌≡◌, ◌++◌, ℕ, List, [], ◌∷◌, length, ◌⊎◌, inl, inr, refl, ap, sym, ◌∙◌, append-nil, arith}
use Rattle.vd_report.specs.ReportLines.{host_lines}
use Rattle.vd_report.specs.declared.reports.HostLine.{HostLine}
use Rattle.vd_report.proofs.reports.hosts_text.Goals as goal

no_line : (all hosts : List (List ℕ)) (lines : List HostLine) → (length hosts ≡ 0) ⊎ (length lines ≡ 0) → host_lines all hosts lines ≡ []
no_line all [] lines e = refl
no_line all (host ∷ hosts) [] e = refl
no_line all (host ∷ hosts) (line ∷ lines) (inl e) = absurd (omega arith)
no_line all (host ∷ hosts) (line ∷ lines) (inr e) = absurd (omega arith)

pub returns : goal.returns
returns c =
    let at = c.loop-host.host-iterator in
    let ended : (length at.a.rest.now ≡ 0) ⊎ (length at.b.rest.now ≡ 0) = elim c.in-None.ensures.steps [ inl e ↦ inl e.1.0 | inr e ↦ inr e.1.0 ] in
    sym (append-nil c.loop-host.text) ∙ ap (λ more. c.loop-host.text ++ more) (sym (no_line c.args.hosts.now at.a.rest.now at.b.rest.now ended)) ∙ c.loop-host.invariant
