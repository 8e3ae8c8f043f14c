use Rattle.vd_cmd_plan.proofs.lines.write_status.Goals as goal

pub returns-in-Memory : goal.returns-in-Memory
returns-in-Memory g c = rw c.in-Memory.is c.write_memory.ensures

pub returns-in-Usage : goal.returns-in-Usage
returns-in-Usage g c = rw c.in-Usage.is c.write_parts.ensures

pub returns-in-ReadFault : goal.returns-in-ReadFault
returns-in-ReadFault g c = rw (c.in-ReadFault.is, ← c.as_str.ensures, ← c.as_bytes.ensures.value) c.write_name.ensures

pub returns-in-TooLong : goal.returns-in-TooLong
returns-in-TooLong g c = rw (c.in-TooLong.is, ← c.as_str-in-TooLong.ensures, ← c.as_bytes-in-TooLong.ensures.value) c.write_sized.ensures

pub returns-in-WriteFault : goal.returns-in-WriteFault
returns-in-WriteFault g c = rw c.in-WriteFault.is c.write_parts-in-WriteFault.ensures

pub returns-in-NoAssignment : goal.returns-in-NoAssignment
returns-in-NoAssignment g c = rw c.in-NoAssignment.is c.write_parts-in-NoAssignment.ensures

pub returns-in-CertificateText : goal.returns-in-CertificateText
returns-in-CertificateText g c = rw c.in-CertificateText.is c.write_offset-in-CertificateText.ensures

pub returns-in-NoHost : goal.returns-in-NoHost
returns-in-NoHost g c = rw (c.in-NoHost.is, ← c.as_str-in-NoHost.ensures, ← c.as_bytes-in-NoHost.ensures.value) c.write_name-in-NoHost.ensures

pub returns-in-NotTwo : goal.returns-in-NotTwo
returns-in-NotTwo g c = rw c.in-NotTwo.is c.write_place.ensures

pub returns-in-HasCommit : goal.returns-in-HasCommit
returns-in-HasCommit g c = rw c.in-HasCommit.is c.write_place-in-HasCommit.ensures

pub returns-in-DealShort : goal.returns-in-DealShort
returns-in-DealShort g c = rw (c.in-DealShort.is, ← c.kind_name.ensures) c.write_name-in-DealShort.ensures

pub returns-in-DealUsed : goal.returns-in-DealUsed
returns-in-DealUsed g c = rw (c.in-DealUsed.is, ← c.as_str-in-DealUsed.ensures, ← c.as_bytes-in-DealUsed.ensures.value) c.write_name-in-DealUsed.ensures

pub returns-in-ShortKey : goal.returns-in-ShortKey
returns-in-ShortKey g c = rw (c.in-ShortKey.is, ← c.as_str-in-ShortKey.ensures, ← c.as_bytes-in-ShortKey.ensures.value) c.write_sized-in-ShortKey.ensures

pub returns-in-Spent : goal.returns-in-Spent
returns-in-Spent g c = rw c.in-Spent.is c.write_offset.ensures

pub returns-in-ViewDiffers : goal.returns-in-ViewDiffers
returns-in-ViewDiffers g c = rw c.in-ViewDiffers.is c.write_place-in-ViewDiffers.ensures

pub returns-in-Table : goal.returns-in-Table
returns-in-Table g c = rw (c.in-Table.is, ← c.as_str-in-Table.ensures, ← c.as_bytes-in-Table.ensures.value) c.write_table.ensures

pub returns-in-Report : goal.returns-in-Report
returns-in-Report g c = rw (c.in-Report.is, ← c.as_str-in-Report.ensures, ← c.as_bytes-in-Report.ensures.value) c.write_report.ensures
