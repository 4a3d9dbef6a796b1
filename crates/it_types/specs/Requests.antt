-- What is known of each request, one line for each in each table: its word and its fields, which kernel call it is, how long it may
-- wait, and the data that it sends. The calls and their arguments are those of µITRON4.0 and of the ITRON TCP/IP API, with one
-- name for each family of the kernel's: wai_sem is twai_sem with fevr, and pol_sem is twai_sem with pol. The tables are this
-- project's own.
use Rattle.std.specs.Prelude.{ℕ, List, [], ◌∷◌, Option, Some, None, codes, nat_eq}
use Rattle.std.specs.List.{find}
use Rattle.std.specs.Cmp.Lexicographic.{pointwise}
use Rattle.it_types.specs.declared.request.Req.{Req}
use Rattle.it_types.specs.declared.request.Req.TheVariants as requests
use Rattle.it_types.specs.declared.kernel_request.KReq.{KReq}
use Rattle.it_types.specs.declared.kernel_request.KReq.TheVariants as kernel
use Rattle.it_types.specs.declared.calls.Word.{Word}
use Rattle.it_types.specs.declared.calls.Word.TheVariants.{ActTsk, CanAct, ExtTsk, TerTsk, ChgPri, GetPri, TslpTsk, WupTsk, CanWup, RelWai, SusTsk, RsmTsk, FrsmTsk, DlyTsk, RotRdq, GetTid, SigSem, TwaiSem, SetFlg, ClrFlg, TwaiFlg, TsndDtq, FsndDtq, TrcvDtq, SetTim, GetTim, StaCyc, StpCyc, TcpCreRep, TcpDelRep, TcpCreCep, TcpDelCep, TcpAcpCep, TcpConCep, TcpShtCep, TcpClsCep, TcpSndDat, TcpRcvDat, TcpGetBuf, TcpSndBuf, TcpRcvBuf, TcpRelBuf, TcpCanCep, UdpCreCep, UdpDelCep, UdpSndDat, UdpRcvDat, UdpCanCep}
use Rattle.it_types.specs.declared.calls.TheConstants.{ALL_WORDS}
use Rattle.it_types.specs.declared.timeout.Tmo.{Tmo}
use Rattle.it_types.specs.declared.timeout.Tmo.TheVariants as timeouts
use Rattle.it_types.specs.Kinds.{Task, Object, Reception, Point, Number, Port, Delay, Time, Mode, Destination, Load, Timeout, TcpFunction, UdpFunction}
use Rattle.it_types.specs.Fields.{Form, Fields}

-- ---- words

unfoldable pub word_text : Word → List ℕ
word_text ActTsk = codes "act_tsk"
word_text CanAct = codes "can_act"
word_text ExtTsk = codes "ext_tsk"
word_text TerTsk = codes "ter_tsk"
word_text ChgPri = codes "chg_pri"
word_text GetPri = codes "get_pri"
word_text TslpTsk = codes "tslp_tsk"
word_text WupTsk = codes "wup_tsk"
word_text CanWup = codes "can_wup"
word_text RelWai = codes "rel_wai"
word_text SusTsk = codes "sus_tsk"
word_text RsmTsk = codes "rsm_tsk"
word_text FrsmTsk = codes "frsm_tsk"
word_text DlyTsk = codes "dly_tsk"
word_text RotRdq = codes "rot_rdq"
word_text GetTid = codes "get_tid"
word_text SigSem = codes "sig_sem"
word_text TwaiSem = codes "twai_sem"
word_text SetFlg = codes "set_flg"
word_text ClrFlg = codes "clr_flg"
word_text TwaiFlg = codes "twai_flg"
word_text TsndDtq = codes "tsnd_dtq"
word_text FsndDtq = codes "fsnd_dtq"
word_text TrcvDtq = codes "trcv_dtq"
word_text SetTim = codes "set_tim"
word_text GetTim = codes "get_tim"
word_text StaCyc = codes "sta_cyc"
word_text StpCyc = codes "stp_cyc"
word_text TcpCreRep = codes "tcp_cre_rep"
word_text TcpDelRep = codes "tcp_del_rep"
word_text TcpCreCep = codes "tcp_cre_cep"
word_text TcpDelCep = codes "tcp_del_cep"
word_text TcpAcpCep = codes "tcp_acp_cep"
word_text TcpConCep = codes "tcp_con_cep"
word_text TcpShtCep = codes "tcp_sht_cep"
word_text TcpClsCep = codes "tcp_cls_cep"
word_text TcpSndDat = codes "tcp_snd_dat"
word_text TcpRcvDat = codes "tcp_rcv_dat"
word_text TcpGetBuf = codes "tcp_get_buf"
word_text TcpSndBuf = codes "tcp_snd_buf"
word_text TcpRcvBuf = codes "tcp_rcv_buf"
word_text TcpRelBuf = codes "tcp_rel_buf"
word_text TcpCanCep = codes "tcp_can_cep"
word_text UdpCreCep = codes "udp_cre_cep"
word_text UdpDelCep = codes "udp_del_cep"
word_text UdpSndDat = codes "udp_snd_dat"
word_text UdpRcvDat = codes "udp_rcv_dat"
word_text UdpCanCep = codes "udp_can_cep"

-- the word that the bytes are, if they are one
abbrev pub word_in : List ℕ → Option Word
word_in bytes = find (λ w. pointwise nat_eq bytes (word_text w)) ALL_WORDS

-- ---- fields

-- the fields of a call, and the request that their values make
pub data Row : Type 0 where
  RowOf : (form : Form) → (Fields form → Req) → Row

abbrev pub row_of : Word → Row
row_of ActTsk = RowOf (Task ∷ []) (λ f. requests.ActTsk f.0)
row_of CanAct = RowOf (Task ∷ []) (λ f. requests.CanAct f.0)
row_of ExtTsk = RowOf ([]) (λ _. requests.ExtTsk)
row_of TerTsk = RowOf (Task ∷ []) (λ f. requests.TerTsk f.0)
row_of ChgPri = RowOf (Task ∷ Number ∷ []) (λ f. requests.ChgPri f.0 f.1.0)
row_of GetPri = RowOf (Task ∷ []) (λ f. requests.GetPri f.0)
row_of TslpTsk = RowOf (Timeout ∷ []) (λ f. requests.TslpTsk f.0)
row_of WupTsk = RowOf (Task ∷ []) (λ f. requests.WupTsk f.0)
row_of CanWup = RowOf (Task ∷ []) (λ f. requests.CanWup f.0)
row_of RelWai = RowOf (Task ∷ []) (λ f. requests.RelWai f.0)
row_of SusTsk = RowOf (Task ∷ []) (λ f. requests.SusTsk f.0)
row_of RsmTsk = RowOf (Task ∷ []) (λ f. requests.RsmTsk f.0)
row_of FrsmTsk = RowOf (Task ∷ []) (λ f. requests.FrsmTsk f.0)
row_of DlyTsk = RowOf (Delay ∷ []) (λ f. requests.DlyTsk f.0)
row_of RotRdq = RowOf (Number ∷ []) (λ f. requests.RotRdq f.0)
row_of GetTid = RowOf ([]) (λ _. requests.GetTid)
row_of SigSem = RowOf (Object ∷ []) (λ f. requests.SigSem f.0)
row_of TwaiSem = RowOf (Object ∷ Timeout ∷ []) (λ f. requests.TwaiSem f.0 f.1.0)
row_of SetFlg = RowOf (Object ∷ Number ∷ []) (λ f. requests.SetFlg f.0 f.1.0)
row_of ClrFlg = RowOf (Object ∷ Number ∷ []) (λ f. requests.ClrFlg f.0 f.1.0)
row_of TwaiFlg = RowOf (Object ∷ Number ∷ Mode ∷ Timeout ∷ []) (λ f. requests.TwaiFlg f.0 f.1.0 f.1.1.0 f.1.1.1.0)
row_of TsndDtq = RowOf (Object ∷ Number ∷ Timeout ∷ []) (λ f. requests.TsndDtq f.0 f.1.0 f.1.1.0)
row_of FsndDtq = RowOf (Object ∷ Number ∷ []) (λ f. requests.FsndDtq f.0 f.1.0)
row_of TrcvDtq = RowOf (Object ∷ Timeout ∷ []) (λ f. requests.TrcvDtq f.0 f.1.0)
row_of SetTim = RowOf (Time ∷ []) (λ f. requests.SetTim f.0)
row_of GetTim = RowOf ([]) (λ _. requests.GetTim)
row_of StaCyc = RowOf (Object ∷ []) (λ f. requests.StaCyc f.0)
row_of StpCyc = RowOf (Object ∷ []) (λ f. requests.StpCyc f.0)
row_of TcpCreRep = RowOf (Reception ∷ Port ∷ []) (λ f. requests.TcpCreRep f.0 f.1.0)
row_of TcpDelRep = RowOf (Reception ∷ []) (λ f. requests.TcpDelRep f.0)
row_of TcpCreCep = RowOf (Point ∷ Number ∷ Number ∷ Object ∷ []) (λ f. requests.TcpCreCep f.0 f.1.0 f.1.1.0 f.1.1.1.0)
row_of TcpDelCep = RowOf (Point ∷ []) (λ f. requests.TcpDelCep f.0)
row_of TcpAcpCep = RowOf (Point ∷ Reception ∷ Timeout ∷ []) (λ f. requests.TcpAcpCep f.0 f.1.0 f.1.1.0)
row_of TcpConCep = RowOf (Point ∷ Port ∷ Destination ∷ Timeout ∷ []) (λ f. requests.TcpConCep f.0 f.1.0 f.1.1.0 f.1.1.1.0)
row_of TcpShtCep = RowOf (Point ∷ []) (λ f. requests.TcpShtCep f.0)
row_of TcpClsCep = RowOf (Point ∷ Timeout ∷ []) (λ f. requests.TcpClsCep f.0 f.1.0)
row_of TcpSndDat = RowOf (Point ∷ Load ∷ Timeout ∷ []) (λ f. requests.TcpSndDat f.0 f.1.0 f.1.1.0)
row_of TcpRcvDat = RowOf (Point ∷ Number ∷ Timeout ∷ []) (λ f. requests.TcpRcvDat f.0 f.1.0 f.1.1.0)
row_of TcpGetBuf = RowOf (Point ∷ Timeout ∷ []) (λ f. requests.TcpGetBuf f.0 f.1.0)
row_of TcpSndBuf = RowOf (Point ∷ Load ∷ []) (λ f. requests.TcpSndBuf f.0 f.1.0)
row_of TcpRcvBuf = RowOf (Point ∷ Timeout ∷ []) (λ f. requests.TcpRcvBuf f.0 f.1.0)
row_of TcpRelBuf = RowOf (Point ∷ Number ∷ []) (λ f. requests.TcpRelBuf f.0 f.1.0)
row_of TcpCanCep = RowOf (Point ∷ TcpFunction ∷ []) (λ f. requests.TcpCanCep f.0 f.1.0)
row_of UdpCreCep = RowOf (Point ∷ Port ∷ Object ∷ []) (λ f. requests.UdpCreCep f.0 f.1.0 f.1.1.0)
row_of UdpDelCep = RowOf (Point ∷ []) (λ f. requests.UdpDelCep f.0)
row_of UdpSndDat = RowOf (Point ∷ Destination ∷ Load ∷ Timeout ∷ []) (λ f. requests.UdpSndDat f.0 f.1.0 f.1.1.0 f.1.1.1.0)
row_of UdpRcvDat = RowOf (Point ∷ Number ∷ Timeout ∷ []) (λ f. requests.UdpRcvDat f.0 f.1.0 f.1.1.0)
row_of UdpCanCep = RowOf (Point ∷ UdpFunction ∷ []) (λ f. requests.UdpCanCep f.0 f.1.0)

abbrev pub form_in : Row → Form
form_in (RowOf form make) = form

abbrev pub made_in : (r : Row) → Fields (form_in r) → Req
made_in (RowOf form make) f = make f

abbrev pub form_of : Word → Form
form_of w = form_in (row_of w)

-- the request of a word and the values of its fields
abbrev pub request_of : (w : Word) → Fields (form_of w) → Req
request_of w f = made_in (row_of w) f

-- a word with the values of its fields
pub data Call : Type 0 where
  Of : (w : Word) → Fields (form_of w) → Call

-- the word of a request, and its fields
abbrev pub parts_of : Req → Call
parts_of (requests.ActTsk task) = Of ActTsk (task, tt)
parts_of (requests.CanAct task) = Of CanAct (task, tt)
parts_of requests.ExtTsk = Of ExtTsk tt
parts_of (requests.TerTsk task) = Of TerTsk (task, tt)
parts_of (requests.ChgPri task pri) = Of ChgPri (task, (pri, tt))
parts_of (requests.GetPri task) = Of GetPri (task, tt)
parts_of (requests.TslpTsk tmo) = Of TslpTsk (tmo, tt)
parts_of (requests.WupTsk task) = Of WupTsk (task, tt)
parts_of (requests.CanWup task) = Of CanWup (task, tt)
parts_of (requests.RelWai task) = Of RelWai (task, tt)
parts_of (requests.SusTsk task) = Of SusTsk (task, tt)
parts_of (requests.RsmTsk task) = Of RsmTsk (task, tt)
parts_of (requests.FrsmTsk task) = Of FrsmTsk (task, tt)
parts_of (requests.DlyTsk ms) = Of DlyTsk (ms, tt)
parts_of (requests.RotRdq pri) = Of RotRdq (pri, tt)
parts_of requests.GetTid = Of GetTid tt
parts_of (requests.SigSem sem) = Of SigSem (sem, tt)
parts_of (requests.TwaiSem sem tmo) = Of TwaiSem (sem, (tmo, tt))
parts_of (requests.SetFlg flg bits) = Of SetFlg (flg, (bits, tt))
parts_of (requests.ClrFlg flg bits) = Of ClrFlg (flg, (bits, tt))
parts_of (requests.TwaiFlg flg bits all tmo) = Of TwaiFlg (flg, (bits, (all, (tmo, tt))))
parts_of (requests.TsndDtq dtq item tmo) = Of TsndDtq (dtq, (item, (tmo, tt)))
parts_of (requests.FsndDtq dtq item) = Of FsndDtq (dtq, (item, tt))
parts_of (requests.TrcvDtq dtq tmo) = Of TrcvDtq (dtq, (tmo, tt))
parts_of (requests.SetTim ms) = Of SetTim (ms, tt)
parts_of requests.GetTim = Of GetTim tt
parts_of (requests.StaCyc cyc) = Of StaCyc (cyc, tt)
parts_of (requests.StpCyc cyc) = Of StpCyc (cyc, tt)
parts_of (requests.TcpCreRep rep port) = Of TcpCreRep (rep, (port, tt))
parts_of (requests.TcpDelRep rep) = Of TcpDelRep (rep, tt)
parts_of (requests.TcpCreCep cep send recv cbr) = Of TcpCreCep (cep, (send, (recv, (cbr, tt))))
parts_of (requests.TcpDelCep cep) = Of TcpDelCep (cep, tt)
parts_of (requests.TcpAcpCep cep rep tmo) = Of TcpAcpCep (cep, (rep, (tmo, tt)))
parts_of (requests.TcpConCep cep port dest tmo) = Of TcpConCep (cep, (port, (dest, (tmo, tt))))
parts_of (requests.TcpShtCep cep) = Of TcpShtCep (cep, tt)
parts_of (requests.TcpClsCep cep tmo) = Of TcpClsCep (cep, (tmo, tt))
parts_of (requests.TcpSndDat cep load tmo) = Of TcpSndDat (cep, (load, (tmo, tt)))
parts_of (requests.TcpRcvDat cep len tmo) = Of TcpRcvDat (cep, (len, (tmo, tt)))
parts_of (requests.TcpGetBuf cep tmo) = Of TcpGetBuf (cep, (tmo, tt))
parts_of (requests.TcpSndBuf cep load) = Of TcpSndBuf (cep, (load, tt))
parts_of (requests.TcpRcvBuf cep tmo) = Of TcpRcvBuf (cep, (tmo, tt))
parts_of (requests.TcpRelBuf cep len) = Of TcpRelBuf (cep, (len, tt))
parts_of (requests.TcpCanCep cep func) = Of TcpCanCep (cep, (func, tt))
parts_of (requests.UdpCreCep cep port cbr) = Of UdpCreCep (cep, (port, (cbr, tt)))
parts_of (requests.UdpDelCep cep) = Of UdpDelCep (cep, tt)
parts_of (requests.UdpSndDat cep dest load tmo) = Of UdpSndDat (cep, (dest, (load, (tmo, tt))))
parts_of (requests.UdpRcvDat cep len tmo) = Of UdpRcvDat (cep, (len, (tmo, tt)))
parts_of (requests.UdpCanCep cep func) = Of UdpCanCep (cep, (func, tt))

-- ---- what else is known of a request

-- the kernel call that a request is (µITRON4.0); a call of the ITRON TCP/IP API is none
abbrev pub kernel_of : Req → Option KReq
kernel_of (requests.ActTsk task) = Some (kernel.ActTsk task)
kernel_of (requests.CanAct task) = Some (kernel.CanAct task)
kernel_of requests.ExtTsk = Some kernel.ExtTsk
kernel_of (requests.TerTsk task) = Some (kernel.TerTsk task)
kernel_of (requests.ChgPri task pri) = Some (kernel.ChgPri task pri)
kernel_of (requests.GetPri task) = Some (kernel.GetPri task)
kernel_of (requests.TslpTsk tmo) = Some (kernel.TslpTsk tmo)
kernel_of (requests.WupTsk task) = Some (kernel.WupTsk task)
kernel_of (requests.CanWup task) = Some (kernel.CanWup task)
kernel_of (requests.RelWai task) = Some (kernel.RelWai task)
kernel_of (requests.SusTsk task) = Some (kernel.SusTsk task)
kernel_of (requests.RsmTsk task) = Some (kernel.RsmTsk task)
kernel_of (requests.FrsmTsk task) = Some (kernel.FrsmTsk task)
kernel_of (requests.DlyTsk ms) = Some (kernel.DlyTsk ms)
kernel_of (requests.RotRdq pri) = Some (kernel.RotRdq pri)
kernel_of requests.GetTid = Some kernel.GetTid
kernel_of (requests.SigSem sem) = Some (kernel.SigSem sem)
kernel_of (requests.TwaiSem sem tmo) = Some (kernel.TwaiSem sem tmo)
kernel_of (requests.SetFlg flg bits) = Some (kernel.SetFlg flg bits)
kernel_of (requests.ClrFlg flg bits) = Some (kernel.ClrFlg flg bits)
kernel_of (requests.TwaiFlg flg bits all tmo) = Some (kernel.TwaiFlg flg bits all tmo)
kernel_of (requests.TsndDtq dtq item tmo) = Some (kernel.TsndDtq dtq item tmo)
kernel_of (requests.FsndDtq dtq item) = Some (kernel.FsndDtq dtq item)
kernel_of (requests.TrcvDtq dtq tmo) = Some (kernel.TrcvDtq dtq tmo)
kernel_of (requests.SetTim ms) = Some (kernel.SetTim ms)
kernel_of requests.GetTim = Some kernel.GetTim
kernel_of (requests.StaCyc cyc) = Some (kernel.StaCyc cyc)
kernel_of (requests.StpCyc cyc) = Some (kernel.StpCyc cyc)
kernel_of (requests.TcpCreRep rep port) = None
kernel_of (requests.TcpDelRep rep) = None
kernel_of (requests.TcpCreCep cep send recv cbr) = None
kernel_of (requests.TcpDelCep cep) = None
kernel_of (requests.TcpAcpCep cep rep tmo) = None
kernel_of (requests.TcpConCep cep port dest tmo) = None
kernel_of (requests.TcpShtCep cep) = None
kernel_of (requests.TcpClsCep cep tmo) = None
kernel_of (requests.TcpSndDat cep load tmo) = None
kernel_of (requests.TcpRcvDat cep len tmo) = None
kernel_of (requests.TcpGetBuf cep tmo) = None
kernel_of (requests.TcpSndBuf cep load) = None
kernel_of (requests.TcpRcvBuf cep tmo) = None
kernel_of (requests.TcpRelBuf cep len) = None
kernel_of (requests.TcpCanCep cep func) = None
kernel_of (requests.UdpCreCep cep port cbr) = None
kernel_of (requests.UdpDelCep cep) = None
kernel_of (requests.UdpSndDat cep dest load tmo) = None
kernel_of (requests.UdpRcvDat cep len tmo) = None
kernel_of (requests.UdpCanCep cep func) = None

-- how long a request may wait: a delay is a number of ticks, and one without a time-out doesn't wait
abbrev pub timeout_of : Req → Tmo
timeout_of (requests.ActTsk task) = timeouts.Pol
timeout_of (requests.CanAct task) = timeouts.Pol
timeout_of requests.ExtTsk = timeouts.Pol
timeout_of (requests.TerTsk task) = timeouts.Pol
timeout_of (requests.ChgPri task pri) = timeouts.Pol
timeout_of (requests.GetPri task) = timeouts.Pol
timeout_of (requests.TslpTsk tmo) = tmo
timeout_of (requests.WupTsk task) = timeouts.Pol
timeout_of (requests.CanWup task) = timeouts.Pol
timeout_of (requests.RelWai task) = timeouts.Pol
timeout_of (requests.SusTsk task) = timeouts.Pol
timeout_of (requests.RsmTsk task) = timeouts.Pol
timeout_of (requests.FrsmTsk task) = timeouts.Pol
timeout_of (requests.DlyTsk ms) = timeouts.Ms ms
timeout_of (requests.RotRdq pri) = timeouts.Pol
timeout_of requests.GetTid = timeouts.Pol
timeout_of (requests.SigSem sem) = timeouts.Pol
timeout_of (requests.TwaiSem sem tmo) = tmo
timeout_of (requests.SetFlg flg bits) = timeouts.Pol
timeout_of (requests.ClrFlg flg bits) = timeouts.Pol
timeout_of (requests.TwaiFlg flg bits all tmo) = tmo
timeout_of (requests.TsndDtq dtq item tmo) = tmo
timeout_of (requests.FsndDtq dtq item) = timeouts.Pol
timeout_of (requests.TrcvDtq dtq tmo) = tmo
timeout_of (requests.SetTim ms) = timeouts.Pol
timeout_of requests.GetTim = timeouts.Pol
timeout_of (requests.StaCyc cyc) = timeouts.Pol
timeout_of (requests.StpCyc cyc) = timeouts.Pol
timeout_of (requests.TcpCreRep rep port) = timeouts.Pol
timeout_of (requests.TcpDelRep rep) = timeouts.Pol
timeout_of (requests.TcpCreCep cep send recv cbr) = timeouts.Pol
timeout_of (requests.TcpDelCep cep) = timeouts.Pol
timeout_of (requests.TcpAcpCep cep rep tmo) = tmo
timeout_of (requests.TcpConCep cep port dest tmo) = tmo
timeout_of (requests.TcpShtCep cep) = timeouts.Pol
timeout_of (requests.TcpClsCep cep tmo) = tmo
timeout_of (requests.TcpSndDat cep load tmo) = tmo
timeout_of (requests.TcpRcvDat cep len tmo) = tmo
timeout_of (requests.TcpGetBuf cep tmo) = tmo
timeout_of (requests.TcpSndBuf cep load) = timeouts.Pol
timeout_of (requests.TcpRcvBuf cep tmo) = tmo
timeout_of (requests.TcpRelBuf cep len) = timeouts.Pol
timeout_of (requests.TcpCanCep cep func) = timeouts.Pol
timeout_of (requests.UdpCreCep cep port cbr) = timeouts.Pol
timeout_of (requests.UdpDelCep cep) = timeouts.Pol
timeout_of (requests.UdpSndDat cep dest load tmo) = tmo
timeout_of (requests.UdpRcvDat cep len tmo) = tmo
timeout_of (requests.UdpCanCep cep func) = timeouts.Pol

-- the data that a request sends
abbrev pub load_of : Req → List ℕ
load_of (requests.ActTsk task) = []
load_of (requests.CanAct task) = []
load_of requests.ExtTsk = []
load_of (requests.TerTsk task) = []
load_of (requests.ChgPri task pri) = []
load_of (requests.GetPri task) = []
load_of (requests.TslpTsk tmo) = []
load_of (requests.WupTsk task) = []
load_of (requests.CanWup task) = []
load_of (requests.RelWai task) = []
load_of (requests.SusTsk task) = []
load_of (requests.RsmTsk task) = []
load_of (requests.FrsmTsk task) = []
load_of (requests.DlyTsk ms) = []
load_of (requests.RotRdq pri) = []
load_of requests.GetTid = []
load_of (requests.SigSem sem) = []
load_of (requests.TwaiSem sem tmo) = []
load_of (requests.SetFlg flg bits) = []
load_of (requests.ClrFlg flg bits) = []
load_of (requests.TwaiFlg flg bits all tmo) = []
load_of (requests.TsndDtq dtq item tmo) = []
load_of (requests.FsndDtq dtq item) = []
load_of (requests.TrcvDtq dtq tmo) = []
load_of (requests.SetTim ms) = []
load_of requests.GetTim = []
load_of (requests.StaCyc cyc) = []
load_of (requests.StpCyc cyc) = []
load_of (requests.TcpCreRep rep port) = []
load_of (requests.TcpDelRep rep) = []
load_of (requests.TcpCreCep cep send recv cbr) = []
load_of (requests.TcpDelCep cep) = []
load_of (requests.TcpAcpCep cep rep tmo) = []
load_of (requests.TcpConCep cep port dest tmo) = []
load_of (requests.TcpShtCep cep) = []
load_of (requests.TcpClsCep cep tmo) = []
load_of (requests.TcpSndDat cep load tmo) = load
load_of (requests.TcpRcvDat cep len tmo) = []
load_of (requests.TcpGetBuf cep tmo) = []
load_of (requests.TcpSndBuf cep load) = load
load_of (requests.TcpRcvBuf cep tmo) = []
load_of (requests.TcpRelBuf cep len) = []
load_of (requests.TcpCanCep cep func) = []
load_of (requests.UdpCreCep cep port cbr) = []
load_of (requests.UdpDelCep cep) = []
load_of (requests.UdpSndDat cep dest load tmo) = load
load_of (requests.UdpRcvDat cep len tmo) = []
load_of (requests.UdpCanCep cep func) = []
