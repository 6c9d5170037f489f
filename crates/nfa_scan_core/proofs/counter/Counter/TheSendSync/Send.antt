-- A counter owns nothing, so it may move to another thread.
use denote.Param.Send.{IsSend}
use Rattle.nfa_scan_core.specs.contracts.counter.Counter.{the_row}

pub send : IsSend the_row
send = record { owned = λ d vs x. (((λ vss. (tt, tt)), tt), tt); leaving = λ k d w. tt }
