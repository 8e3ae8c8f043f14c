-- A list of gates that is made of seven pieces.
use Rattle.std.proofs.Common.{◌≡◌, List, ◌++◌, ap, ◌∙◌}
use Rattle.vd_backend_sharing.specs.Gates.{Gate}
use Rattle.vd_bits.specs.declared.gates.Gate.{Gate as Written}
use Rattle.vd_bits.specs.BitCalls.{gates_in}
use Rattle.vd_bits.proofs.Front.{gates_append, on, more}

-- literal gates, then five groups, then literal gates
pub seven_pieces : (start xs a b c d e zs first last : List Written) (g1 g2 g3 g4 g5 : List Gate) → xs ≡ start ++ first
    → gates_in a ≡ gates_in xs ++ g1 → gates_in b ≡ gates_in a ++ g2 → gates_in c ≡ gates_in b ++ g3 → gates_in d ≡ gates_in c ++ g4
    → gates_in e ≡ gates_in d ++ g5 → zs ≡ e ++ last
    → gates_in zs ≡ gates_in start ++ ((((((gates_in first ++ g1) ++ g2) ++ g3) ++ g4) ++ g5) ++ gates_in last)
seven_pieces start xs a b c d e zs first last g1 g2 g3 g4 g5 p q r s t u v =
    on start e zs (((((gates_in first ++ g1) ++ g2) ++ g3) ++ g4) ++ g5)
    (more start d e ((((gates_in first ++ g1) ++ g2) ++ g3) ++ g4) g5
    (more start c d (((gates_in first ++ g1) ++ g2) ++ g3) g4
    (more start b c ((gates_in first ++ g1) ++ g2) g3
    (more start a b (gates_in first ++ g1) g2
    (more start xs a (gates_in first) g1 (ap gates_in p ∙ gates_append start first) q) r) s) t) u) last v
