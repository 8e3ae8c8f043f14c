-- How many packets passed is read.
use Rattle.std.proofs.Common.{ℕ, Bool, true, false, nat_eq, if◌then◌else◌, List, [], ◌∷◌, ◌++◌, codes, refl}
use Rattle.std.specs.Fmt.{decimal}
use Rattle.vd_report.proofs.Front.{AreRead, both_read, number_text, one_read}
use Rattle.vd_shell.specs.PacketsRead.{PacketsAreRead}
use Rattle.vd_shell.specs.Reasons.{noun_of}

abbrev noun_by : Bool → List ℕ
noun_by one = if one then codes "packet" else codes "packets"

noun_read : (one : Bool) → AreRead (noun_by one) (noun_by one ∷ [])
noun_read true = record { on = λ rest. refl; end = refl }
noun_read false = record { on = λ rest. refl; end = refl }

sent_read : AreRead (codes "sent,") (codes "sent," ∷ [])
sent_read = record { on = λ rest. refl; end = refl }

received_read : AreRead (codes "received") (codes "received" ∷ [])
received_read = record { on = λ rest. refl; end = refl }

pub packets_read : PacketsAreRead
packets_read sent came few less = record {
  noun = noun_of sent;
  read =
      (both_read (decimal sent) (noun_of sent ++ 32 ∷ (codes "sent," ++ 32 ∷ (decimal came ++ 32 ∷ codes "received"))) (decimal sent ∷ [])
      (noun_of sent ∷ codes "sent," ∷ decimal came ∷ codes "received" ∷ []) (one_read (decimal sent) (number_text sent few))
      (both_read (noun_of sent) (codes "sent," ++ 32 ∷ (decimal came ++ 32 ∷ codes "received")) (noun_of sent ∷ []) (codes "sent," ∷ decimal came ∷ codes "received" ∷ [])
      (noun_read (nat_eq sent 1))
      (both_read (codes "sent,") (decimal came ++ 32 ∷ codes "received") (codes "sent," ∷ []) (decimal came ∷ codes "received" ∷ []) sent_read
      (both_read (decimal came) (codes "received") (decimal came ∷ []) (codes "received" ∷ []) (one_read (decimal came) (number_text came less)) received_read)))).end;
}
