use Rattle.vd_diag_terminal.proofs.diag_branches.remarks.branch_remark.Goals as goal

pub hidden_remark-requires : goal.hidden_remark-requires
hidden_remark-requires c = c.requires.is

pub returns : goal.returns
returns c = record { least = c.requires; is = c.in_ok-remark.ensures {u = tt} }
