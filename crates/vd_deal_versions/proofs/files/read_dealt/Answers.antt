use Rattle.std.proofs.Common.{ℕ}
use Rattle.vd_base_codec.specs.Exact.{StopsAt}
use Rattle.vd_base_codec.proofs.Front.{file_accepts, file_is, file_refuses}
use Rattle.vd_deal_versions.specs.Text.{IsDealtFile, IsDealtOf, IsDealtText}
use Rattle.vd_deal_versions.specs.Reading.{dealt_read}
use Rattle.vd_deal_versions.proofs.DealtExact.{follow_grammar}
use Rattle.vd_deal_versions.proofs.files.read_dealt.Goals as goal

pub returns-clause-given : goal.returns-clause-given
returns-clause-given c =
    let hosts : ℕ = c.args.hosts in
    let me : ℕ = c.args.me.0 in
    file_accepts (dealt_read hosts me c.args.bytes.now) (IsDealtFile hosts me c.args.bytes.now) (StopsAt (IsDealtText hosts me) c.args.bytes.now)
    (follow_grammar hosts me c.args.bytes.now c.requires.few c.requires.declared) c.read_bytes.result c.read_bytes.ensures.ok c.read_bytes.ensures.err

pub returns-clause-refused : goal.returns-clause-refused
returns-clause-refused c =
    let hosts : ℕ = c.args.hosts in
    let me : ℕ = c.args.me.0 in
    file_refuses (dealt_read hosts me c.args.bytes.now) (IsDealtFile hosts me c.args.bytes.now) (StopsAt (IsDealtText hosts me) c.args.bytes.now)
    (follow_grammar hosts me c.args.bytes.now c.requires.few c.requires.declared) c.read_bytes.result c.read_bytes.ensures.ok c.read_bytes.ensures.err

pub returns-clause-dealt : goal.returns-clause-dealt
returns-clause-dealt c =
    let hosts : ℕ = c.args.hosts in
    let me : ℕ = c.args.me.0 in
    file_is (dealt_read hosts me c.args.bytes.now) (IsDealtFile hosts me c.args.bytes.now) (StopsAt (IsDealtText hosts me) c.args.bytes.now)
    (follow_grammar hosts me c.args.bytes.now c.requires.few c.requires.declared) (IsDealtOf hosts me) (λ dealt is. is.0) c.read_bytes.result c.read_bytes.ensures.ok
