use Rattle.std.proofs.Common.{refl}
use Rattle.vd_search_stages.proofs.ByArcs.{empty, found}
use Rattle.vd_search_stages.proofs.network.network_selection.Goals as goal

pub returns-in_ok-certificate-in-Found : goal.returns-in_ok-certificate-in-Found
returns-in_ok-certificate-in-Found c = λ problem budget holds can answers.
    found problem problem c.args.by_arcs.now c.args.by_arcs.now budget c.in-Found.cost c.in-Found.list c.in-Found.marks c.in_ok-certificate-in-Found.certificate refl refl holds can (rw c.in-Found.is at answers) c.in_ok-certificate-in-Found.ensures

pub returns-in-Empty : goal.returns-in-Empty
returns-in-Empty c = λ problem budget holds can answers.
    empty problem problem c.args.by_arcs.now budget c.in-Empty.marks c.refuted.result refl c.refuted.ensures holds (rw c.in-Empty.is at answers)
