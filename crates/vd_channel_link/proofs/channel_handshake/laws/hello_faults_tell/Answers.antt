use Rattle.vd_channel_link.proofs.FaultsTell.{faults_tell}
use Rattle.vd_channel_link.proofs.channel_handshake.laws.hello_faults_tell.Goals as goal

pub returns : goal.returns
returns c = faults_tell
