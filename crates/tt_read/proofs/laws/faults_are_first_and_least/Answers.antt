use Rattle.tt_read.proofs.WhatIsReadLaws.{document_of-fault}
use Rattle.tt_read.proofs.laws.faults_are_first_and_least.Goals as goal

pub returns : goal.returns
returns c = document_of-fault
