use Rattle.ann_said.proofs.FillReplies.{said_cut_judged, said_cut_caused, said_cut_stopped, said_cut_logged}
use Rattle.ann_said.proofs.fills.cutting.Goals as goal

pub returns-clause-judged : goal.returns-clause-judged
returns-clause-judged c index h0 known seed count first updates place why at less has refused makes lines = said_cut_judged index h0 known lines seed count first updates place why at less has refused makes

pub returns-clause-caused : goal.returns-clause-caused
returns-clause-caused c index h0 known seed count first updates at why less cause told makes ends lines = said_cut_caused index h0 known lines seed count first updates at why less cause told makes ends

pub returns-clause-stopped : goal.returns-clause-stopped
returns-clause-stopped c index h0 known seed count first updates at last less stop told makes ends lines = said_cut_stopped index h0 known lines seed count first updates at last less stop told makes ends

pub returns-clause-logged : goal.returns-clause-logged
returns-clause-logged c index h0 known seed count first updates at last batch less is told makes ends lines = said_cut_logged index h0 known lines seed count first updates at last batch less is told makes ends
