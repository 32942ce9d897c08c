use Rattle.wap_asm.proofs.RowLaws.{any_read_back, read_back, none_shorter, length-spelling}
use Rattle.wap_asm.proofs.Spelled.{spelled}
use Rattle.wap_asm.proofs.laws.table_is_exact.Goals as goal

pub returns : goal.returns
returns c =
    record {
      any = any_read_back;
      read = read_back;
      short = none_shorter;
      long = length-spelling;
      spelled = spelled;
    }
