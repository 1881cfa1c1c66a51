use Rattle.example_service.proofs.Serving.{unchanged, lines_of, same_state, all_accepted, cut_of}
use Rattle.example_service.proofs.laws.logs_lead_to_their_tables.Goals as goal

pub returns-clause-unchanged : goal.returns-clause-unchanged
returns-clause-unchanged c = unchanged

pub returns-clause-lines : goal.returns-clause-lines
returns-clause-lines c old served texts last h r = lines_of old served texts last h r

pub returns-clause-same : goal.returns-clause-same
returns-clause-same c old served texts last h r = same_state old served texts last h r

pub returns-clause-accepted : goal.returns-clause-accepted
returns-clause-accepted c old served texts last h before r = all_accepted old served texts last h r before

pub returns-clause-cut : goal.returns-clause-cut
returns-clause-cut c old served texts last front back h r e = cut_of old served texts last front back h r e
