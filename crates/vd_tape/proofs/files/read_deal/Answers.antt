use Rattle.std.proofs.Common.{ℕ}
use Rattle.vd_base_codec.specs.Exact.{StopsAt}
use Rattle.vd_base_codec.proofs.Front.{file_accepts, file_is, file_refuses}
use Rattle.vd_tape.specs.Text.{IsDealOf, IsDealText, IsFileOf}
use Rattle.vd_tape.specs.Reading.{deal_read}
use Rattle.vd_tape.proofs.DealExact.{follow_grammar}
use Rattle.vd_tape.proofs.files.read_deal.Goals as goal

pub returns-clause-given : goal.returns-clause-given
returns-clause-given c =
    let hosts : ℕ = c.args.hosts in
    let me : ℕ = c.args.me.0 in
    file_accepts (deal_read hosts me c.args.bytes.now) (IsFileOf hosts me c.args.bytes.now) (StopsAt (IsDealText hosts me) c.args.bytes.now)
    (follow_grammar hosts me c.args.bytes.now c.requires.few c.requires.declared) c.read_bytes.result c.read_bytes.ensures.ok c.read_bytes.ensures.err

pub returns-clause-refused : goal.returns-clause-refused
returns-clause-refused c =
    let hosts : ℕ = c.args.hosts in
    let me : ℕ = c.args.me.0 in
    file_refuses (deal_read hosts me c.args.bytes.now) (IsFileOf hosts me c.args.bytes.now) (StopsAt (IsDealText hosts me) c.args.bytes.now)
    (follow_grammar hosts me c.args.bytes.now c.requires.few c.requires.declared) c.read_bytes.result c.read_bytes.ensures.ok c.read_bytes.ensures.err

pub returns-clause-deal : goal.returns-clause-deal
returns-clause-deal c =
    let hosts : ℕ = c.args.hosts in
    let me : ℕ = c.args.me.0 in
    file_is (deal_read hosts me c.args.bytes.now) (IsFileOf hosts me c.args.bytes.now) (StopsAt (IsDealText hosts me) c.args.bytes.now)
    (follow_grammar hosts me c.args.bytes.now c.requires.few c.requires.declared) (IsDealOf hosts me) (λ deal is. is.0) c.read_bytes.result c.read_bytes.ensures.ok
